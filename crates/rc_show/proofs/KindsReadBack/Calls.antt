-- The printing form of a value reads as that value again: kinds that call, that make functions, and that mark a place
-- in the source. A kind does so if its fields do.
use Rattle.std.proofs.Common.{◌≡◌, ℕ, Bool, List, Option, None, Some, refl}
use Rattle.serde_json.specs.Data.{string}
use Rattle.rc_names.specs.declared.span.Span.{Span}
use Rattle.rc_hir.specs.Model.{LoweredFunction, Place, PlaceOrSpread}
use Rattle.rc_hir.specs.declared.instruction.InstructionValue.TheVariants as kinds
use Rattle.rc_doc.specs.Kinds.{instruction_value_of}
use Rattle.rc_doc.specs.Kinds.Calls.{call_expression_of, debugger_of, finish_memoize_of, function_expression_of}
use Rattle.rc_doc.specs.Kinds.Calls.{method_call_of, new_expression_of, object_method_of, start_memoize_of}
use Rattle.rc_doc.specs.Parts.{lowered_function_of}
use Rattle.rc_doc.specs.Places.{argument_of, place_of, span_of}
use Rattle.rc_doc.specs.Reading.{list_of, number_of, text_of}
use Rattle.rc_show.specs.Showing.{add, add_some, IsReadAgain, list_data, number_data}
use Rattle.rc_show.specs.ShownKinds.{IsReadBack}
use Rattle.rc_show.specs.ShownParts.{lowered_function_data}
use Rattle.rc_show.specs.ShownParts.Places.{argument_data, place_data, span_data}

pub new_expression_again : (callee : Place) (args : List PlaceOrSpread) (span : Option Span)
    → place_of (place_data callee) ≡ Some callee → list_of argument_of (list_data argument_data args) ≡ Some args
    → IsReadAgain span_of span_data span
    → IsReadBack (kinds.NewExpression callee args span)
unfolding instruction_value_of new_expression_of add add_some
new_expression_again callee args None h j s = rw (h, j) refl
new_expression_again callee args (Some span) h j s = rw (h, j, s) refl

pub call_expression_again : (callee : Place) (args : List PlaceOrSpread) (span : Option Span)
    → place_of (place_data callee) ≡ Some callee → list_of argument_of (list_data argument_data args) ≡ Some args
    → IsReadAgain span_of span_data span
    → IsReadBack (kinds.CallExpression callee args span)
unfolding instruction_value_of call_expression_of add add_some
call_expression_again callee args None h j s = rw (h, j) refl
call_expression_again callee args (Some span) h j s = rw (h, j, s) refl

pub method_call_again : (receiver : Place) (property : Place) (args : List PlaceOrSpread) (span : Option Span)
    → place_of (place_data receiver) ≡ Some receiver → place_of (place_data property) ≡ Some property
    → list_of argument_of (list_data argument_data args) ≡ Some args → IsReadAgain span_of span_data span
    → IsReadBack (kinds.MethodCall receiver property args span)
unfolding instruction_value_of method_call_of add add_some
method_call_again receiver property args None h j k s = rw (h, j, k) refl
method_call_again receiver property args (Some span) h j k s = rw (h, j, k, s) refl

pub object_method_again : (lowered_func : LoweredFunction) (span : Option Span)
    → lowered_function_of (lowered_function_data lowered_func) ≡ Some lowered_func → IsReadAgain span_of span_data span
    → IsReadBack (kinds.ObjectMethod lowered_func span)
unfolding instruction_value_of object_method_of add add_some
object_method_again lowered_func None h s = rw h refl
object_method_again lowered_func (Some span) h s = rw (h, s) refl

pub function_expression_again : (name : Option (List ℕ)) (lowered_func : LoweredFunction) (span : Option Span)
    → IsReadAgain text_of string name → lowered_function_of (lowered_function_data lowered_func) ≡ Some lowered_func
    → IsReadAgain span_of span_data span
    → IsReadBack (kinds.FunctionExpression name lowered_func span)
unfolding instruction_value_of function_expression_of add add_some
function_expression_again None lowered_func None h j s = rw j refl
function_expression_again None lowered_func (Some span) h j s = rw (j, s) refl
function_expression_again (Some name) lowered_func None h j s = rw j refl
function_expression_again (Some name) lowered_func (Some span) h j s = rw (j, s) refl

pub debugger_again : (span : Option Span) → IsReadAgain span_of span_data span → IsReadBack (kinds.Debugger span)
unfolding instruction_value_of debugger_of add add_some
debugger_again None s = refl
debugger_again (Some span) s = rw s refl

pub start_memoize_again : (manual_memo_id : ℕ) (deps : List Place) (span : Option Span)
    → number_of (number_data manual_memo_id) ≡ Some manual_memo_id
    → list_of place_of (list_data place_data deps) ≡ Some deps → IsReadAgain span_of span_data span
    → IsReadBack (kinds.StartMemoize manual_memo_id deps span)
unfolding instruction_value_of start_memoize_of add add_some
start_memoize_again manual_memo_id deps None h j s = rw (h, j) refl
start_memoize_again manual_memo_id deps (Some span) h j s = rw (h, j, s) refl

pub finish_memoize_again : (manual_memo_id : ℕ) (decl : Place) (pruned : Bool) (span : Option Span)
    → number_of (number_data manual_memo_id) ≡ Some manual_memo_id → place_of (place_data decl) ≡ Some decl
    → IsReadAgain span_of span_data span
    → IsReadBack (kinds.FinishMemoize manual_memo_id decl pruned span)
unfolding instruction_value_of finish_memoize_of add add_some
finish_memoize_again manual_memo_id decl pruned None h j s = rw (h, j) refl
finish_memoize_again manual_memo_id decl pruned (Some span) h j s = rw (h, j, s) refl
