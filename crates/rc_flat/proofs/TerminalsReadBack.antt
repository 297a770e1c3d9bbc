-- The printing form of a terminal of a graph reads as that terminal again, if that of its parts does.
use Rattle.std.proofs.Common.{Bool, List, Option, None, Some, refl}
use Rattle.rc_names.specs.declared.span.Span.{Span}
use Rattle.rc_names.specs.Numbers.{BlockId, EvaluationOrder, ScopeId}
use Rattle.rc_hir.specs.Model.{Case, GotoVariant, LogicalOperator, Place}
use Rattle.rc_hir.specs.declared.instruction.LogicalOperator.TheVariants as operators
use Rattle.rc_hir.specs.declared.terminal.GotoVariant.TheVariants as variants
use Rattle.rc_hir.specs.declared.terminal.Terminal.TheVariants as terminals
use Rattle.rc_doc.specs.Numbers.{id_of}
use Rattle.rc_doc.specs.Places.{place_of, span_of}
use Rattle.rc_doc.specs.Reading.{list_of}
use Rattle.rc_doc.specs.Terminals.{terminal_of}
use Rattle.rc_doc.specs.Terminals.Blocks.{label_of, pruned_scope_of, scope_of, sequence_of, try_of}
use Rattle.rc_doc.specs.Terminals.Branches.{branch_of, case_of, if_of, logical_of, logical_operator_of, optional_of}
use Rattle.rc_doc.specs.Terminals.Branches.{switch_of, ternary_of}
use Rattle.rc_doc.specs.Terminals.Jumps.{goto_of, goto_variant_of, maybe_throw_of, return_of, throw_of, unreachable_of}
use Rattle.rc_doc.specs.Terminals.Loops.{do_while_of, for_in_of, for_of, for_of_of, while_of}
use Rattle.rc_show.specs.NotNull.{no_null_place}
use Rattle.rc_show.specs.Showing.{add, add_some, id_data, list_data, IsReadAgain}
use Rattle.rc_show.specs.ShownParts.Places.{place_data, span_data}
use Rattle.rc_flat.proofs.Again.{if_there, IsAgain}
use Rattle.rc_flat.specs.ShownGraph.{case_data, goto_variant_data, logical_operator_data, terminal_data}

pub logical_operator_again : (x : LogicalOperator) → IsAgain logical_operator_of logical_operator_data x
unfolding logical_operator_data
logical_operator_again operators.And = refl
logical_operator_again operators.Or = refl
logical_operator_again operators.Coalesce = refl

pub goto_variant_again : (x : GotoVariant) → IsAgain goto_variant_of goto_variant_data x
unfolding goto_variant_data
goto_variant_again variants.Break = refl
goto_variant_again variants.Continue = refl
goto_variant_again variants.Try = refl

pub case_again : (test : Option Place) (block : BlockId) → IsReadAgain place_of place_data test
    → IsAgain id_of id_data block → IsAgain case_of case_data (record { test = test; block = block })
unfolding case_of case_data add add_some
case_again None block h g = rw g refl
case_again (Some test) block h g = rw (if_there place_of place_data test (no_null_place test) h, g) refl

pub terminal_again-If : (test : Place) (consequent alternate fallthrough : BlockId) (id : EvaluationOrder)
    (span : Option Span) → IsAgain place_of place_data test → IsAgain id_of id_data consequent
    → IsAgain id_of id_data alternate → IsAgain id_of id_data fallthrough → IsAgain id_of id_data id
    → IsReadAgain span_of span_data span
    → IsAgain terminal_of terminal_data (terminals.If test consequent alternate fallthrough id span)
unfolding terminal_of if_of terminal_data add add_some
terminal_again-If test consequent alternate fallthrough id None h g k m p q = rw (h, g, k, m, p) refl
terminal_again-If test consequent alternate fallthrough id (Some span) h g k m p q = rw (h, g, k, m, p, q) refl

pub terminal_again-Branch : (test : Place) (consequent alternate : BlockId) (id : EvaluationOrder)
    (span : Option Span) → IsAgain place_of place_data test → IsAgain id_of id_data consequent
    → IsAgain id_of id_data alternate → IsAgain id_of id_data id → IsReadAgain span_of span_data span
    → IsAgain terminal_of terminal_data (terminals.Branch test consequent alternate id span)
unfolding terminal_of branch_of terminal_data add add_some
terminal_again-Branch test consequent alternate id None h g k m p = rw (h, g, k, m) refl
terminal_again-Branch test consequent alternate id (Some span) h g k m p = rw (h, g, k, m, p) refl

pub terminal_again-Logical : (operator : LogicalOperator) (test fallthrough : BlockId) (id : EvaluationOrder)
    (span : Option Span) → IsAgain id_of id_data test → IsAgain id_of id_data fallthrough → IsAgain id_of id_data id
    → IsReadAgain span_of span_data span
    → IsAgain terminal_of terminal_data (terminals.Logical operator test fallthrough id span)
unfolding terminal_of logical_of terminal_data add add_some
terminal_again-Logical operator test fallthrough id None h g k m = rw (logical_operator_again operator, h, g, k) refl
terminal_again-Logical operator test fallthrough id (Some span) h g k m =
    rw (logical_operator_again operator, h, g, k, m) refl

pub terminal_again-Ternary : (test fallthrough : BlockId) (id : EvaluationOrder) (span : Option Span)
    → IsAgain id_of id_data test → IsAgain id_of id_data fallthrough → IsAgain id_of id_data id
    → IsReadAgain span_of span_data span
    → IsAgain terminal_of terminal_data (terminals.Ternary test fallthrough id span)
unfolding terminal_of ternary_of terminal_data add add_some
terminal_again-Ternary test fallthrough id None h g k m = rw (h, g, k) refl
terminal_again-Ternary test fallthrough id (Some span) h g k m = rw (h, g, k, m) refl

pub terminal_again-Optional : (optional : Bool) (test fallthrough : BlockId) (id : EvaluationOrder)
    (span : Option Span) → IsAgain id_of id_data test → IsAgain id_of id_data fallthrough → IsAgain id_of id_data id
    → IsReadAgain span_of span_data span
    → IsAgain terminal_of terminal_data (terminals.Optional optional test fallthrough id span)
unfolding terminal_of optional_of terminal_data add add_some
terminal_again-Optional optional test fallthrough id None h g k m = rw (h, g, k) refl
terminal_again-Optional optional test fallthrough id (Some span) h g k m = rw (h, g, k, m) refl

pub terminal_again-Sequence : (block fallthrough : BlockId) (id : EvaluationOrder) (span : Option Span)
    → IsAgain id_of id_data block → IsAgain id_of id_data fallthrough → IsAgain id_of id_data id
    → IsReadAgain span_of span_data span
    → IsAgain terminal_of terminal_data (terminals.Sequence block fallthrough id span)
unfolding terminal_of sequence_of terminal_data add add_some
terminal_again-Sequence block fallthrough id None h g k m = rw (h, g, k) refl
terminal_again-Sequence block fallthrough id (Some span) h g k m = rw (h, g, k, m) refl

pub terminal_again-Throw : (value : Place) (id : EvaluationOrder) (span : Option Span)
    → IsAgain place_of place_data value → IsAgain id_of id_data id → IsReadAgain span_of span_data span
    → IsAgain terminal_of terminal_data (terminals.Throw value id span)
unfolding terminal_of throw_of terminal_data add add_some
terminal_again-Throw value id None h g k = rw (h, g) refl
terminal_again-Throw value id (Some span) h g k = rw (h, g, k) refl

pub terminal_again-Return : (value : Place) (id : EvaluationOrder) (span : Option Span)
    → IsAgain place_of place_data value → IsAgain id_of id_data id → IsReadAgain span_of span_data span
    → IsAgain terminal_of terminal_data (terminals.Return value id span)
unfolding terminal_of return_of terminal_data add add_some
terminal_again-Return value id None h g k = rw (h, g) refl
terminal_again-Return value id (Some span) h g k = rw (h, g, k) refl

pub terminal_again-Goto : (block : BlockId) (variant : GotoVariant) (id : EvaluationOrder) (span : Option Span)
    → IsAgain id_of id_data block → IsAgain id_of id_data id → IsReadAgain span_of span_data span
    → IsAgain terminal_of terminal_data (terminals.Goto block variant id span)
unfolding terminal_of goto_of terminal_data add add_some
terminal_again-Goto block variant id None h g k = rw (h, goto_variant_again variant, g) refl
terminal_again-Goto block variant id (Some span) h g k = rw (h, goto_variant_again variant, g, k) refl

pub terminal_again-Switch : (test : Place) (cases : List Case) (fallthrough : BlockId) (id : EvaluationOrder)
    (span : Option Span) → IsAgain place_of place_data test → IsAgain (list_of case_of) (list_data case_data) cases
    → IsAgain id_of id_data fallthrough → IsAgain id_of id_data id → IsReadAgain span_of span_data span
    → IsAgain terminal_of terminal_data (terminals.Switch test cases fallthrough id span)
unfolding terminal_of switch_of terminal_data add add_some
terminal_again-Switch test cases fallthrough id None h g k m p = rw (h, g, k, m) refl
terminal_again-Switch test cases fallthrough id (Some span) h g k m p = rw (h, g, k, m, p) refl

pub terminal_again-DoWhile : (loop_block test fallthrough : BlockId) (id : EvaluationOrder) (span : Option Span)
    → IsAgain id_of id_data loop_block → IsAgain id_of id_data test → IsAgain id_of id_data fallthrough
    → IsAgain id_of id_data id → IsReadAgain span_of span_data span
    → IsAgain terminal_of terminal_data (terminals.DoWhile loop_block test fallthrough id span)
unfolding terminal_of do_while_of terminal_data add add_some
terminal_again-DoWhile loop_block test fallthrough id None h g k m p = rw (h, g, k, m) refl
terminal_again-DoWhile loop_block test fallthrough id (Some span) h g k m p = rw (h, g, k, m, p) refl

pub terminal_again-While : (test loop_block fallthrough : BlockId) (id : EvaluationOrder) (span : Option Span)
    → IsAgain id_of id_data test → IsAgain id_of id_data loop_block → IsAgain id_of id_data fallthrough
    → IsAgain id_of id_data id → IsReadAgain span_of span_data span
    → IsAgain terminal_of terminal_data (terminals.While test loop_block fallthrough id span)
unfolding terminal_of while_of terminal_data add add_some
terminal_again-While test loop_block fallthrough id None h g k m p = rw (h, g, k, m) refl
terminal_again-While test loop_block fallthrough id (Some span) h g k m p = rw (h, g, k, m, p) refl

pub terminal_again-For : (init test : BlockId) (update : Option BlockId) (loop_block fallthrough : BlockId)
    (id : EvaluationOrder) (span : Option Span) → IsAgain id_of id_data init → IsAgain id_of id_data test
    → IsReadAgain id_of id_data update → IsAgain id_of id_data loop_block → IsAgain id_of id_data fallthrough
    → IsAgain id_of id_data id → IsReadAgain span_of span_data span
    → IsAgain terminal_of terminal_data (terminals.For init test update loop_block fallthrough id span)
unfolding terminal_of for_of terminal_data add add_some
terminal_again-For init test None loop_block fallthrough id None h g k m p q r = rw (h, g, m, p, q) refl
terminal_again-For init test None loop_block fallthrough id (Some span) h g k m p q r = rw (h, g, m, p, q, r) refl
terminal_again-For init test (Some update) loop_block fallthrough id None h g k m p q r = rw (h, g, k, m, p, q) refl
terminal_again-For init test (Some update) loop_block fallthrough id (Some span) h g k m p q r =
    rw (h, g, k, m, p, q, r) refl

pub terminal_again-ForOf : (init test loop_block fallthrough : BlockId) (id : EvaluationOrder) (span : Option Span)
    → IsAgain id_of id_data init → IsAgain id_of id_data test → IsAgain id_of id_data loop_block
    → IsAgain id_of id_data fallthrough → IsAgain id_of id_data id → IsReadAgain span_of span_data span
    → IsAgain terminal_of terminal_data (terminals.ForOf init test loop_block fallthrough id span)
unfolding terminal_of for_of_of terminal_data add add_some
terminal_again-ForOf init test loop_block fallthrough id None h g k m p q = rw (h, g, k, m, p) refl
terminal_again-ForOf init test loop_block fallthrough id (Some span) h g k m p q = rw (h, g, k, m, p, q) refl

pub terminal_again-ForIn : (init loop_block fallthrough : BlockId) (id : EvaluationOrder) (span : Option Span)
    → IsAgain id_of id_data init → IsAgain id_of id_data loop_block → IsAgain id_of id_data fallthrough
    → IsAgain id_of id_data id → IsReadAgain span_of span_data span
    → IsAgain terminal_of terminal_data (terminals.ForIn init loop_block fallthrough id span)
unfolding terminal_of for_in_of terminal_data add add_some
terminal_again-ForIn init loop_block fallthrough id None h g k m p = rw (h, g, k, m) refl
terminal_again-ForIn init loop_block fallthrough id (Some span) h g k m p = rw (h, g, k, m, p) refl

pub terminal_again-Label : (block fallthrough : BlockId) (id : EvaluationOrder) (span : Option Span)
    → IsAgain id_of id_data block → IsAgain id_of id_data fallthrough → IsAgain id_of id_data id
    → IsReadAgain span_of span_data span
    → IsAgain terminal_of terminal_data (terminals.Label block fallthrough id span)
unfolding terminal_of label_of terminal_data add add_some
terminal_again-Label block fallthrough id None h g k m = rw (h, g, k) refl
terminal_again-Label block fallthrough id (Some span) h g k m = rw (h, g, k, m) refl

pub terminal_again-Unreachable : (id : EvaluationOrder) (span : Option Span) → IsAgain id_of id_data id
    → IsReadAgain span_of span_data span → IsAgain terminal_of terminal_data (terminals.Unreachable id span)
unfolding terminal_of unreachable_of terminal_data add add_some
terminal_again-Unreachable id None h g = rw h refl
terminal_again-Unreachable id (Some span) h g = rw (h, g) refl

pub terminal_again-MaybeThrow : (continuation : BlockId) (handler : Option BlockId) (id : EvaluationOrder)
    (span : Option Span) → IsAgain id_of id_data continuation → IsReadAgain id_of id_data handler
    → IsAgain id_of id_data id → IsReadAgain span_of span_data span
    → IsAgain terminal_of terminal_data (terminals.MaybeThrow continuation handler id span)
unfolding terminal_of maybe_throw_of terminal_data add add_some
terminal_again-MaybeThrow continuation None id None h g k m = rw (h, k) refl
terminal_again-MaybeThrow continuation None id (Some span) h g k m = rw (h, k, m) refl
terminal_again-MaybeThrow continuation (Some handler) id None h g k m = rw (h, g, k) refl
terminal_again-MaybeThrow continuation (Some handler) id (Some span) h g k m = rw (h, g, k, m) refl

pub terminal_again-Scope : (fallthrough block : BlockId) (scope : ScopeId) (id : EvaluationOrder) (span : Option Span)
    → IsAgain id_of id_data fallthrough → IsAgain id_of id_data block → IsAgain id_of id_data scope
    → IsAgain id_of id_data id → IsReadAgain span_of span_data span
    → IsAgain terminal_of terminal_data (terminals.Scope fallthrough block scope id span)
unfolding terminal_of scope_of terminal_data add add_some
terminal_again-Scope fallthrough block scope id None h g k m p = rw (h, g, k, m) refl
terminal_again-Scope fallthrough block scope id (Some span) h g k m p = rw (h, g, k, m, p) refl

pub terminal_again-PrunedScope : (fallthrough block : BlockId) (scope : ScopeId) (id : EvaluationOrder)
    (span : Option Span) → IsAgain id_of id_data fallthrough → IsAgain id_of id_data block
    → IsAgain id_of id_data scope → IsAgain id_of id_data id → IsReadAgain span_of span_data span
    → IsAgain terminal_of terminal_data (terminals.PrunedScope fallthrough block scope id span)
unfolding terminal_of pruned_scope_of terminal_data add add_some
terminal_again-PrunedScope fallthrough block scope id None h g k m p = rw (h, g, k, m) refl
terminal_again-PrunedScope fallthrough block scope id (Some span) h g k m p = rw (h, g, k, m, p) refl

pub terminal_again-Try : (block : BlockId) (handler_binding : Option Place) (handler fallthrough : BlockId)
    (id : EvaluationOrder) (span : Option Span) → IsAgain id_of id_data block
    → IsReadAgain place_of place_data handler_binding → IsAgain id_of id_data handler
    → IsAgain id_of id_data fallthrough → IsAgain id_of id_data id → IsReadAgain span_of span_data span
    → IsAgain terminal_of terminal_data (terminals.Try block handler_binding handler fallthrough id span)
unfolding terminal_of try_of terminal_data add add_some
terminal_again-Try block None handler fallthrough id None h g k m p q = rw (h, k, m, p) refl
terminal_again-Try block None handler fallthrough id (Some span) h g k m p q = rw (h, k, m, p, q) refl
terminal_again-Try block (Some handler_binding) handler fallthrough id None h g k m p q =
    rw (h, if_there place_of place_data handler_binding (no_null_place handler_binding) g, k, m, p) refl
terminal_again-Try block (Some handler_binding) handler fallthrough id (Some span) h g k m p q =
    rw (h, if_there place_of place_data handler_binding (no_null_place handler_binding) g, k, m, p, q) refl

pub ruleset terminal_again = (
  terminal_again-If,
  terminal_again-Branch,
  terminal_again-Logical,
  terminal_again-Ternary,
  terminal_again-Optional,
  terminal_again-Sequence,
  terminal_again-Throw,
  terminal_again-Return,
  terminal_again-Goto,
  terminal_again-Switch,
  terminal_again-DoWhile,
  terminal_again-While,
  terminal_again-For,
  terminal_again-ForOf,
  terminal_again-ForIn,
  terminal_again-Label,
  terminal_again-Unreachable,
  terminal_again-MaybeThrow,
  terminal_again-Scope,
  terminal_again-PrunedScope,
  terminal_again-Try,
)
