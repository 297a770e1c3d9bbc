-- The printing form of a function as two tables reads as those again, if that of their parts does.
use Rattle.std.proofs.Common.{ℕ, Bool, List, Option, None, Some, refl}
use Rattle.serde_json.specs.Data.{string}
use Rattle.rc_names.specs.declared.span.Span.{Span}
use Rattle.rc_names.specs.Numbers.{BlockId, EvaluationOrder, ScopeId}
use Rattle.rc_hir.specs.Model.{InstructionValue, LogicalOperator, Place}
use Rattle.rc_tree.specs.Model.{ReactiveLabel, ReactiveTerminalTargetKind}
use Rattle.rc_tree.specs.declared.kind.ReactiveTerminalTargetKind.TheVariants as target
use Rattle.rc_doc.specs.Kinds.{instruction_value_of}
use Rattle.rc_doc.specs.Numbers.{id_of}
use Rattle.rc_doc.specs.Places.{param_of, place_of, span_of}
use Rattle.rc_doc.specs.Reading.{list_of, number_of, text_of}
use Rattle.rc_show.specs.NotNull.{no_null_place}
use Rattle.rc_show.specs.Showing.{add, add_some, id_data, list_data, number_data, IsReadAgain}
use Rattle.rc_show.specs.ShownKinds.{value_data}
use Rattle.rc_show.specs.ShownParts.Places.{place_data, span_data}
use Rattle.rc_flat.proofs.Again.{if_there, IsAgain}
use Rattle.rc_flat.proofs.NeverNull.{no_null_flat_value, no_null_label}
use Rattle.rc_flat.proofs.TerminalsReadBack.{logical_operator_again}
use Rattle.rc_flat.specs.Model.{FlatFunction, FlatInstruction, FlatScopeBlock, FlatSwitchCase, FlatTerminal}
use Rattle.rc_flat.specs.Model.{FlatTerminalStatement, FlatValue}
use Rattle.rc_flat.specs.ReadingFlat.{flat_function_of, label_of, scope_block_of, statement_of, terminal_statement_of}
use Rattle.rc_flat.specs.ReadingFlat.Terminals.{do_while_of, flat_case_of, flat_terminal_of, for_in_of, for_of, for_of_of}
use Rattle.rc_flat.specs.ReadingFlat.Terminals.{if_of, labeled_of, switch_of, target_kind_of, try_of, while_of}
use Rattle.rc_flat.specs.ReadingFlat.Values.{conditional_of, flat_instruction_of, flat_value_of, logical_of}
use Rattle.rc_flat.specs.ReadingFlat.Values.{nested_number_of, nested_value_of, optional_of, sequence_of}
use Rattle.rc_flat.specs.ShownFlat.{flat_case_data, flat_function_data, flat_instruction_data, flat_terminal_data}
use Rattle.rc_flat.specs.ShownFlat.{flat_value_data, label_data, nested_value_data, scope_block_data, statement_data}
use Rattle.rc_flat.specs.ShownFlat.{target_kind_data, terminal_statement_data}
use Rattle.rc_flat.specs.ShownGraph.{param_data}
use Rattle.rc_flat.specs.declared.statement.FlatStatement.TheVariants as flat
use Rattle.rc_flat.specs.declared.terminal.FlatTerminal.TheVariants as terminals
use Rattle.rc_flat.specs.declared.value.FlatValue.TheVariants as values
use Rattle.rc_flat.specs.declared.value.NestedValue.TheVariants as entry

pub flat_value_again-Instruction : (x : InstructionValue) → IsAgain instruction_value_of value_data x
    → IsAgain flat_value_of flat_value_data (values.Instruction x)
unfolding flat_value_of flat_value_data
flat_value_again-Instruction x h = rw h refl

-- no instruction has this name
pub flat_value_again-Nested : (n : ℕ) → IsAgain number_of number_data n
    → IsAgain flat_value_of flat_value_data (values.Nested n)
unfolding flat_value_of nested_number_of flat_value_data instruction_value_of add
flat_value_again-Nested n h = rw h refl

pub ruleset flat_value_again = (flat_value_again-Instruction, flat_value_again-Nested)

pub flat_instruction_again : (id : EvaluationOrder) (lvalue : Option Place) (value : FlatValue) (span : Option Span)
    → IsAgain id_of id_data id → IsReadAgain place_of place_data lvalue → IsAgain flat_value_of flat_value_data value
    → IsReadAgain span_of span_data span
    → IsAgain flat_instruction_of flat_instruction_data (record { id = id; lvalue = lvalue; value = value; span = span })
unfolding flat_instruction_of flat_instruction_data add add_some
flat_instruction_again id None value None h g k m = rw (h, k) refl
flat_instruction_again id None value (Some span) h g k m = rw (h, k, m) refl
flat_instruction_again id (Some lvalue) value None h g k m =
    rw (h, if_there place_of place_data lvalue (no_null_place lvalue) g, k) refl
flat_instruction_again id (Some lvalue) value (Some span) h g k m =
    rw (h, if_there place_of place_data lvalue (no_null_place lvalue) g, k, m) refl

pub nested_value_again-LogicalExpression : (operator : LogicalOperator) (left right : FlatValue)
    → IsAgain flat_value_of flat_value_data left → IsAgain flat_value_of flat_value_data right
    → IsAgain nested_value_of nested_value_data (entry.LogicalExpression operator left right)
unfolding nested_value_of logical_of nested_value_data add add_some
nested_value_again-LogicalExpression operator left right h g = rw (logical_operator_again operator, h, g) refl

pub nested_value_again-ConditionalExpression : (test consequent alternate : FlatValue)
    → IsAgain flat_value_of flat_value_data test → IsAgain flat_value_of flat_value_data consequent
    → IsAgain flat_value_of flat_value_data alternate
    → IsAgain nested_value_of nested_value_data (entry.ConditionalExpression test consequent alternate)
unfolding nested_value_of conditional_of nested_value_data add add_some
nested_value_again-ConditionalExpression test consequent alternate h g k = rw (h, g, k) refl

pub nested_value_again-SequenceExpression : (instructions : List FlatInstruction) (id : EvaluationOrder)
    (value : FlatValue) → IsAgain (list_of flat_instruction_of) (list_data flat_instruction_data) instructions
    → IsAgain id_of id_data id → IsAgain flat_value_of flat_value_data value
    → IsAgain nested_value_of nested_value_data (entry.SequenceExpression instructions id value)
unfolding nested_value_of sequence_of nested_value_data add add_some
nested_value_again-SequenceExpression instructions id value h g k = rw (h, g, k) refl

pub nested_value_again-OptionalExpression : (value : FlatValue) (optional : Bool)
    → IsAgain flat_value_of flat_value_data value
    → IsAgain nested_value_of nested_value_data (entry.OptionalExpression value optional)
unfolding nested_value_of optional_of nested_value_data add add_some
nested_value_again-OptionalExpression value optional h = rw h refl

pub ruleset nested_value_again = (
  nested_value_again-LogicalExpression,
  nested_value_again-ConditionalExpression,
  nested_value_again-SequenceExpression,
  nested_value_again-OptionalExpression,
)

pub target_kind_again : (x : ReactiveTerminalTargetKind) → IsAgain target_kind_of target_kind_data x
unfolding target_kind_data
target_kind_again target.Implicit = refl
target_kind_again target.Labeled = refl
target_kind_again target.Unlabeled = refl

pub label_again : (id : BlockId) (implicit : Bool) → IsAgain id_of id_data id
    → IsAgain label_of label_data (record { id = id; implicit = implicit })
unfolding label_of label_data add add_some
label_again id implicit h = rw h refl

pub flat_case_again : (test : Option Place) (block : Option ℕ) → IsReadAgain place_of place_data test
    → IsReadAgain number_of number_data block
    → IsAgain flat_case_of flat_case_data (record { test = test; block = block })
unfolding flat_case_of flat_case_data add add_some
flat_case_again None None h g = refl
flat_case_again None (Some block) h g = rw g refl
flat_case_again (Some test) None h g = rw (if_there place_of place_data test (no_null_place test) h) refl
flat_case_again (Some test) (Some block) h g = rw (if_there place_of place_data test (no_null_place test) h, g) refl

pub flat_terminal_again-Break : (target : BlockId) (kind : ReactiveTerminalTargetKind) (id : EvaluationOrder)
    → IsAgain id_of id_data target → IsAgain id_of id_data id
    → IsAgain flat_terminal_of flat_terminal_data (terminals.Break target kind id)
unfolding flat_terminal_of flat_terminal_data add add_some
flat_terminal_again-Break target kind id h g = rw (h, target_kind_again kind, g) refl

pub flat_terminal_again-Continue : (target : BlockId) (kind : ReactiveTerminalTargetKind) (id : EvaluationOrder)
    → IsAgain id_of id_data target → IsAgain id_of id_data id
    → IsAgain flat_terminal_of flat_terminal_data (terminals.Continue target kind id)
unfolding flat_terminal_of flat_terminal_data add add_some
flat_terminal_again-Continue target kind id h g = rw (h, target_kind_again kind, g) refl

pub flat_terminal_again-Return : (value : Place) (id : EvaluationOrder) → IsAgain place_of place_data value
    → IsAgain id_of id_data id → IsAgain flat_terminal_of flat_terminal_data (terminals.Return value id)
unfolding flat_terminal_of flat_terminal_data add add_some
flat_terminal_again-Return value id h g = rw (h, g) refl

pub flat_terminal_again-Throw : (value : Place) (id : EvaluationOrder) → IsAgain place_of place_data value
    → IsAgain id_of id_data id → IsAgain flat_terminal_of flat_terminal_data (terminals.Throw value id)
unfolding flat_terminal_of flat_terminal_data add add_some
flat_terminal_again-Throw value id h g = rw (h, g) refl

pub flat_terminal_again-Switch : (test : Place) (cases : List FlatSwitchCase) (id : EvaluationOrder)
    → IsAgain place_of place_data test → IsAgain (list_of flat_case_of) (list_data flat_case_data) cases
    → IsAgain id_of id_data id → IsAgain flat_terminal_of flat_terminal_data (terminals.Switch test cases id)
unfolding flat_terminal_of switch_of flat_terminal_data add add_some
flat_terminal_again-Switch test cases id h g k = rw (h, g, k) refl

pub flat_terminal_again-DoWhile : (loop_block : ℕ) (test : FlatValue) (id : EvaluationOrder)
    → IsAgain number_of number_data loop_block → IsAgain flat_value_of flat_value_data test → IsAgain id_of id_data id
    → IsAgain flat_terminal_of flat_terminal_data (terminals.DoWhile loop_block test id)
unfolding flat_terminal_of do_while_of flat_terminal_data add add_some
flat_terminal_again-DoWhile loop_block test id h g k = rw (h, g, k) refl

pub flat_terminal_again-While : (test : FlatValue) (loop_block : ℕ) (id : EvaluationOrder)
    → IsAgain flat_value_of flat_value_data test → IsAgain number_of number_data loop_block → IsAgain id_of id_data id
    → IsAgain flat_terminal_of flat_terminal_data (terminals.While test loop_block id)
unfolding flat_terminal_of while_of flat_terminal_data add add_some
flat_terminal_again-While test loop_block id h g k = rw (h, g, k) refl

pub flat_terminal_again-For : (init test : FlatValue) (update : Option FlatValue) (loop_block : ℕ)
    (id : EvaluationOrder) → IsAgain flat_value_of flat_value_data init → IsAgain flat_value_of flat_value_data test
    → IsReadAgain flat_value_of flat_value_data update → IsAgain number_of number_data loop_block
    → IsAgain id_of id_data id
    → IsAgain flat_terminal_of flat_terminal_data (terminals.For init test update loop_block id)
unfolding flat_terminal_of for_of flat_terminal_data add add_some
flat_terminal_again-For init test None loop_block id h g k m p = rw (h, g, m, p) refl
flat_terminal_again-For init test (Some update) loop_block id h g k m p =
    rw (h, g, if_there flat_value_of flat_value_data update (no_null_flat_value update) k, m, p) refl

pub flat_terminal_again-ForOf : (init test : FlatValue) (loop_block : ℕ) (span : Option Span) (id : EvaluationOrder)
    → IsAgain flat_value_of flat_value_data init → IsAgain flat_value_of flat_value_data test
    → IsAgain number_of number_data loop_block → IsReadAgain span_of span_data span → IsAgain id_of id_data id
    → IsAgain flat_terminal_of flat_terminal_data (terminals.ForOf init test loop_block span id)
unfolding flat_terminal_of for_of_of flat_terminal_data add add_some
flat_terminal_again-ForOf init test loop_block None id h g k m p = rw (h, g, k, p) refl
flat_terminal_again-ForOf init test loop_block (Some span) id h g k m p = rw (h, g, k, m, p) refl

pub flat_terminal_again-ForIn : (init : FlatValue) (loop_block : ℕ) (span : Option Span) (id : EvaluationOrder)
    → IsAgain flat_value_of flat_value_data init → IsAgain number_of number_data loop_block
    → IsReadAgain span_of span_data span → IsAgain id_of id_data id
    → IsAgain flat_terminal_of flat_terminal_data (terminals.ForIn init loop_block span id)
unfolding flat_terminal_of for_in_of flat_terminal_data add add_some
flat_terminal_again-ForIn init loop_block None id h g k m = rw (h, g, m) refl
flat_terminal_again-ForIn init loop_block (Some span) id h g k m = rw (h, g, k, m) refl

pub flat_terminal_again-If : (test : Place) (consequent : ℕ) (alternate : Option ℕ) (id : EvaluationOrder)
    → IsAgain place_of place_data test → IsAgain number_of number_data consequent
    → IsReadAgain number_of number_data alternate → IsAgain id_of id_data id
    → IsAgain flat_terminal_of flat_terminal_data (terminals.If test consequent alternate id)
unfolding flat_terminal_of if_of flat_terminal_data add add_some
flat_terminal_again-If test consequent None id h g k m = rw (h, g, m) refl
flat_terminal_again-If test consequent (Some alternate) id h g k m = rw (h, g, k, m) refl

pub flat_terminal_again-Label : (block : ℕ) (id : EvaluationOrder) → IsAgain number_of number_data block
    → IsAgain id_of id_data id → IsAgain flat_terminal_of flat_terminal_data (terminals.Label block id)
unfolding flat_terminal_of labeled_of flat_terminal_data add add_some
flat_terminal_again-Label block id h g = rw (h, g) refl

pub flat_terminal_again-Try : (block : ℕ) (handler_binding : Option Place) (handler : ℕ) (id : EvaluationOrder)
    → IsAgain number_of number_data block → IsReadAgain place_of place_data handler_binding
    → IsAgain number_of number_data handler → IsAgain id_of id_data id
    → IsAgain flat_terminal_of flat_terminal_data (terminals.Try block handler_binding handler id)
unfolding flat_terminal_of try_of flat_terminal_data add add_some
flat_terminal_again-Try block None handler id h g k m = rw (h, k, m) refl
flat_terminal_again-Try block (Some handler_binding) handler id h g k m =
    rw (h, if_there place_of place_data handler_binding (no_null_place handler_binding) g, k, m) refl

pub ruleset flat_terminal_again = (
  flat_terminal_again-Break,
  flat_terminal_again-Continue,
  flat_terminal_again-Return,
  flat_terminal_again-Throw,
  flat_terminal_again-Switch,
  flat_terminal_again-DoWhile,
  flat_terminal_again-While,
  flat_terminal_again-For,
  flat_terminal_again-ForOf,
  flat_terminal_again-ForIn,
  flat_terminal_again-If,
  flat_terminal_again-Label,
  flat_terminal_again-Try,
)

pub terminal_statement_again : (terminal : FlatTerminal) (label : Option ReactiveLabel)
    → IsAgain flat_terminal_of flat_terminal_data terminal → IsReadAgain label_of label_data label
    → IsAgain terminal_statement_of terminal_statement_data (record { terminal = terminal; label = label })
unfolding terminal_statement_of terminal_statement_data add add_some
terminal_statement_again terminal None h g = rw h refl
terminal_statement_again terminal (Some label) h g =
    rw (h, if_there label_of label_data label (no_null_label label) g) refl

pub scope_block_again : (scope : ScopeId) (instructions : ℕ) → IsAgain id_of id_data scope
    → IsAgain number_of number_data instructions
    → IsAgain scope_block_of scope_block_data (record { scope = scope; instructions = instructions })
unfolding scope_block_of scope_block_data add add_some
scope_block_again scope instructions h g = rw (h, g) refl

pub statement_again-Instruction : (x : FlatInstruction) → IsAgain flat_instruction_of flat_instruction_data x
    → IsAgain statement_of statement_data (flat.Instruction x)
unfolding statement_of statement_data add add_some
statement_again-Instruction x h = rw h refl

pub statement_again-Terminal : (x : FlatTerminalStatement) → IsAgain terminal_statement_of terminal_statement_data x
    → IsAgain statement_of statement_data (flat.Terminal x)
unfolding statement_of statement_data add add_some
statement_again-Terminal x h = rw h refl

pub statement_again-Scope : (x : FlatScopeBlock) → IsAgain scope_block_of scope_block_data x
    → IsAgain statement_of statement_data (flat.Scope x)
unfolding statement_of statement_data add add_some
statement_again-Scope x h = rw h refl

pub statement_again-PrunedScope : (x : FlatScopeBlock) → IsAgain scope_block_of scope_block_data x
    → IsAgain statement_of statement_data (flat.PrunedScope x)
unfolding statement_of statement_data add add_some
statement_again-PrunedScope x h = rw h refl

pub ruleset statement_again =
    (statement_again-Instruction, statement_again-Terminal, statement_again-Scope, statement_again-PrunedScope)

-- a function as two tables
module _ (x : FlatFunction) (params : IsAgain (list_of param_of) (list_data param_data) x.params)
    (blocks : IsAgain (list_of (list_of statement_of)) (list_data (list_data statement_data)) x.blocks)
    (values : IsAgain (list_of nested_value_of) (list_data nested_value_data) x.values)
    (directives : IsAgain (list_of text_of) (list_data string) x.directives) where
  again_with : (span : Option Span) (id name_hint : Option (List ℕ)) → IsReadAgain span_of span_data span
      → IsAgain flat_function_of flat_function_data (record x { span = span; id = id; name_hint = name_hint })
  unfolding flat_function_of flat_function_data add add_some
  again_with None None None h = rw (params, blocks, values, directives) refl
  again_with None None (Some n) h = rw (params, blocks, values, directives) refl
  again_with None (Some i) None h = rw (params, blocks, values, directives) refl
  again_with None (Some i) (Some n) h = rw (params, blocks, values, directives) refl
  again_with (Some s) None None h = rw (h, params, blocks, values, directives) refl
  again_with (Some s) None (Some n) h = rw (h, params, blocks, values, directives) refl
  again_with (Some s) (Some i) None h = rw (h, params, blocks, values, directives) refl
  again_with (Some s) (Some i) (Some n) h = rw (h, params, blocks, values, directives) refl

  pub flat_function_again : IsReadAgain span_of span_data x.span → IsAgain flat_function_of flat_function_data x
  flat_function_again h = again_with x.span x.id x.name_hint h
