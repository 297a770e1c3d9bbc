-- The printing form of a function as two tables has plain numbers, and keys in byte order.
use Rattle.std.proofs.Common.{ℕ, List, Option, None, Some, refl}
use Rattle.serde_json.specs.Data.{string}
use Rattle.rc_names.specs.declared.span.Span.{Span}
use Rattle.rc_hir.specs.Model.{Place}
use Rattle.rc_tree.specs.Model.{ReactiveLabel, ReactiveTerminalTargetKind}
use Rattle.rc_tree.specs.declared.kind.ReactiveTerminalTargetKind.TheVariants as target
use Rattle.rc_show.proofs.PlainForms.{plain_list, plain_place, plain_text, plain_value, IsPlain}
use Rattle.rc_show.specs.Showing.{add, add_some, list_data}
use Rattle.rc_flat.specs.Model.{FlatFunction, FlatInstruction, FlatScopeBlock, FlatStatement, FlatSwitchCase}
use Rattle.rc_flat.specs.Model.{FlatTerminal, FlatTerminalStatement, FlatValue, NestedValue}
use Rattle.rc_flat.specs.ShownFlat.{flat_case_data, flat_function_data, flat_instruction_data, flat_terminal_data}
use Rattle.rc_flat.specs.ShownFlat.{flat_value_data, label_data, nested_value_data, scope_block_data, statement_data}
use Rattle.rc_flat.specs.ShownFlat.{target_kind_data, terminal_statement_data}
use Rattle.rc_flat.specs.ShownGraph.{param_data}
use Rattle.rc_flat.specs.declared.statement.FlatStatement.TheVariants as flat
use Rattle.rc_flat.specs.declared.terminal.FlatTerminal.TheVariants as terminals
use Rattle.rc_flat.specs.declared.value.FlatValue.TheVariants as values
use Rattle.rc_flat.specs.declared.value.NestedValue.TheVariants as entry
use Rattle.rc_answer.proofs.PlainGraphs.{plain_logical_operator, plain_param}

plain_flat_value : (x : FlatValue) → IsPlain flat_value_data x
unfolding flat_value_data add add_some
plain_flat_value (values.Instruction x) = rw (plain_value x) refl
plain_flat_value (values.Nested n) = refl

plain_target_kind : (x : ReactiveTerminalTargetKind) → IsPlain target_kind_data x
unfolding target_kind_data add add_some
plain_target_kind target.Implicit = refl
plain_target_kind target.Labeled = refl
plain_target_kind target.Unlabeled = refl

plain_label : (x : ReactiveLabel) → IsPlain label_data x
unfolding label_data add add_some
plain_label x = refl

flat_instruction_with : (x : FlatInstruction) (lvalue : Option Place) (span : Option Span)
    → IsPlain flat_instruction_data (record x { lvalue = lvalue; span = span })
unfolding flat_instruction_data add add_some
flat_instruction_with x None None = rw (plain_flat_value x.value) refl
flat_instruction_with x None (Some span) = rw (plain_flat_value x.value) refl
flat_instruction_with x (Some lvalue) None = rw (plain_flat_value x.value, plain_place lvalue) refl
flat_instruction_with x (Some lvalue) (Some span) = rw (plain_flat_value x.value, plain_place lvalue) refl

plain_flat_instruction : (x : FlatInstruction) → IsPlain flat_instruction_data x
plain_flat_instruction x = flat_instruction_with x x.lvalue x.span

plain_nested_value : (x : NestedValue) → IsPlain nested_value_data x
unfolding nested_value_data add add_some
plain_nested_value (entry.LogicalExpression operator left right) =
    rw (plain_flat_value left, plain_logical_operator operator, plain_flat_value right) refl
plain_nested_value (entry.ConditionalExpression test consequent alternate) =
    rw (plain_flat_value test, plain_flat_value consequent, plain_flat_value alternate) refl
plain_nested_value (entry.SequenceExpression rows id x) =
    rw (plain_list flat_instruction_data plain_flat_instruction rows, plain_flat_value x) refl
plain_nested_value (entry.OptionalExpression x optional) = rw (plain_flat_value x) refl

flat_case_with : (x : FlatSwitchCase) (block : Option ℕ) (test : Option Place)
    → IsPlain flat_case_data (record x { block = block; test = test })
unfolding flat_case_data add add_some
flat_case_with x None None = refl
flat_case_with x None (Some test) = rw (plain_place test) refl
flat_case_with x (Some block) None = refl
flat_case_with x (Some block) (Some test) = rw (plain_place test) refl

plain_flat_case : (x : FlatSwitchCase) → IsPlain flat_case_data x
plain_flat_case x = flat_case_with x x.block x.test

plain_flat_terminal : (x : FlatTerminal) → IsPlain flat_terminal_data x
unfolding flat_terminal_data add add_some
plain_flat_terminal (terminals.Break target kind id) = rw (plain_target_kind kind) refl
plain_flat_terminal (terminals.Continue target kind id) = rw (plain_target_kind kind) refl
plain_flat_terminal (terminals.Return place id) = rw (plain_place place) refl
plain_flat_terminal (terminals.Throw place id) = rw (plain_place place) refl
plain_flat_terminal (terminals.Switch test cases id) =
    rw (plain_place test, plain_list flat_case_data plain_flat_case cases) refl
plain_flat_terminal (terminals.DoWhile body test id) = rw (plain_flat_value test) refl
plain_flat_terminal (terminals.While test body id) = rw (plain_flat_value test) refl
plain_flat_terminal (terminals.For init test None body id) = rw (plain_flat_value init, plain_flat_value test) refl
plain_flat_terminal (terminals.For init test (Some update) body id) =
    rw (plain_flat_value init, plain_flat_value test, plain_flat_value update) refl
plain_flat_terminal (terminals.ForOf init test body None id) = rw (plain_flat_value init, plain_flat_value test) refl
plain_flat_terminal (terminals.ForOf init test body (Some span) id) =
    rw (plain_flat_value init, plain_flat_value test) refl
plain_flat_terminal (terminals.ForIn init body None id) = rw (plain_flat_value init) refl
plain_flat_terminal (terminals.ForIn init body (Some span) id) = rw (plain_flat_value init) refl
plain_flat_terminal (terminals.If test consequent None id) = rw (plain_place test) refl
plain_flat_terminal (terminals.If test consequent (Some alternate) id) = rw (plain_place test) refl
plain_flat_terminal (terminals.Label body id) = refl
plain_flat_terminal (terminals.Try block None handler id) = refl
plain_flat_terminal (terminals.Try block (Some binding) handler id) = rw (plain_place binding) refl

terminal_statement_with : (x : FlatTerminalStatement) (label : Option ReactiveLabel)
    → IsPlain terminal_statement_data (record x { label = label })
unfolding terminal_statement_data add add_some
terminal_statement_with x None = rw (plain_flat_terminal x.terminal) refl
terminal_statement_with x (Some label) = rw (plain_flat_terminal x.terminal, plain_label label) refl

plain_terminal_statement : (x : FlatTerminalStatement) → IsPlain terminal_statement_data x
plain_terminal_statement x = terminal_statement_with x x.label

plain_scope_block : (x : FlatScopeBlock) → IsPlain scope_block_data x
unfolding scope_block_data add add_some
plain_scope_block x = refl

plain_statement : (x : FlatStatement) → IsPlain statement_data x
unfolding statement_data add add_some
plain_statement (flat.Instruction x) = rw (plain_flat_instruction x) refl
plain_statement (flat.Terminal x) = rw (plain_terminal_statement x) refl
plain_statement (flat.Scope x) = rw (plain_scope_block x) refl
plain_statement (flat.PrunedScope x) = rw (plain_scope_block x) refl

plain_statements : (xs : List FlatStatement) → IsPlain (list_data statement_data) xs
plain_statements xs = plain_list statement_data plain_statement xs

flat_function_with : (x : FlatFunction) (span : Option Span) (id : Option (List ℕ)) (name_hint : Option (List ℕ))
    → IsPlain flat_function_data (record x { span = span; id = id; name_hint = name_hint })
unfolding flat_function_data add add_some
flat_function_with x None None None =
    rw (
      plain_list (list_data statement_data) plain_statements x.blocks,
      plain_list string plain_text x.directives,
      plain_list param_data plain_param x.params,
      plain_list nested_value_data plain_nested_value x.values,
    ) refl
flat_function_with x None None (Some name_hint) =
    rw (
      plain_list (list_data statement_data) plain_statements x.blocks,
      plain_list string plain_text x.directives,
      plain_list param_data plain_param x.params,
      plain_list nested_value_data plain_nested_value x.values,
    ) refl
flat_function_with x None (Some id) None =
    rw (
      plain_list (list_data statement_data) plain_statements x.blocks,
      plain_list string plain_text x.directives,
      plain_list param_data plain_param x.params,
      plain_list nested_value_data plain_nested_value x.values,
    ) refl
flat_function_with x None (Some id) (Some name_hint) =
    rw (
      plain_list (list_data statement_data) plain_statements x.blocks,
      plain_list string plain_text x.directives,
      plain_list param_data plain_param x.params,
      plain_list nested_value_data plain_nested_value x.values,
    ) refl
flat_function_with x (Some span) None None =
    rw (
      plain_list (list_data statement_data) plain_statements x.blocks,
      plain_list string plain_text x.directives,
      plain_list param_data plain_param x.params,
      plain_list nested_value_data plain_nested_value x.values,
    ) refl
flat_function_with x (Some span) None (Some name_hint) =
    rw (
      plain_list (list_data statement_data) plain_statements x.blocks,
      plain_list string plain_text x.directives,
      plain_list param_data plain_param x.params,
      plain_list nested_value_data plain_nested_value x.values,
    ) refl
flat_function_with x (Some span) (Some id) None =
    rw (
      plain_list (list_data statement_data) plain_statements x.blocks,
      plain_list string plain_text x.directives,
      plain_list param_data plain_param x.params,
      plain_list nested_value_data plain_nested_value x.values,
    ) refl
flat_function_with x (Some span) (Some id) (Some name_hint) =
    rw (
      plain_list (list_data statement_data) plain_statements x.blocks,
      plain_list string plain_text x.directives,
      plain_list param_data plain_param x.params,
      plain_list nested_value_data plain_nested_value x.values,
    ) refl

pub plain_flat_function : (x : FlatFunction) → IsPlain flat_function_data x
plain_flat_function x = flat_function_with x x.span x.id x.name_hint
