-- Definitions of other crates that functions of this one unfold.
pub use Rattle.rc_show.specs.Showing.{add, add_some}
pub use Rattle.rc_flat.specs.ShownEnvironment.{config_data, declaration_data, declaration_entry_data, dependency_data}
pub use Rattle.rc_flat.specs.ShownEnvironment.{early_return_data, environment_data, identifier_data}
pub use Rattle.rc_flat.specs.ShownEnvironment.{identifier_name_data, path_entry_data, range_data, scope_data}
pub use Rattle.rc_flat.specs.ShownEnvironment.{shape_data}
pub use Rattle.rc_flat.specs.ShownEnvironment.{shape_row_data, type_data}
pub use Rattle.rc_flat.specs.ShownFlat.{flat_case_data, flat_function_data, flat_instruction_data, flat_terminal_data}
pub use Rattle.rc_flat.specs.ShownFlat.{flat_value_data, label_data, nested_value_data, scope_block_data}
pub use Rattle.rc_flat.specs.ShownFlat.{statement_data, target_kind_data, terminal_statement_data}
pub use Rattle.rc_flat.specs.ShownGraph.{case_data, function_data, goto_variant_data, hir_data, instruction_data}
pub use Rattle.rc_flat.specs.ShownGraph.{keyed_block_data, logical_operator_data, param_data, terminal_data}
pub use Rattle.rc_flat.specs.Values.{entry_of, flat_value, inside_value, nested}
