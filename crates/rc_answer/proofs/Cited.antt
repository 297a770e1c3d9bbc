-- Lemmas of other crates that functions of this one are proved by.
pub use Rattle.rc_show.proofs.SendingLemmas.{field_sent, text_sent, object_sent}
pub use Rattle.rc_show.proofs.ShownLists.{table_again}
pub use Rattle.rc_flat.proofs.EnvironmentReadsBack.{config_again, declaration_again, declaration_entry_again}
pub use Rattle.rc_flat.proofs.EnvironmentReadsBack.{dependency_again, early_return_again, environment_again}
pub use Rattle.rc_flat.proofs.EnvironmentReadsBack.{identifier_again, identifier_name_again, path_entry_again}
pub use Rattle.rc_flat.proofs.EnvironmentReadsBack.{range_again, scope_again, shape_again, shape_row_again, type_again}
pub use Rattle.rc_flat.proofs.FlatReadsBack.{flat_case_again, flat_instruction_again, flat_terminal_again}
pub use Rattle.rc_flat.proofs.FlatReadsBack.{flat_value_again, label_again, nested_value_again, scope_block_again}
pub use Rattle.rc_flat.proofs.FlatReadsBack.{statement_again, target_kind_again, terminal_statement_again}
pub use Rattle.rc_flat.proofs.GraphReadsBack.{block_again, function_again, hir_again, instruction_again, param_again}
pub use Rattle.rc_flat.proofs.TerminalsReadBack.{case_again, goto_variant_again, logical_operator_again}
pub use Rattle.rc_flat.proofs.TerminalsReadBack.{terminal_again}
