-- Kinds that call, that make functions, and that mark a place in the source.
use Rattle.std.specs.Prelude.{ℕ, List, [], ◌∷◌, Option, Some, codes}
use Rattle.serde_json.specs.Data.{Data}
use Rattle.rc_hir.specs.Model.{InstructionValue}
use Rattle.rc_hir.specs.declared.instruction.InstructionValue.TheVariants as kinds
use Rattle.rc_doc.specs.Parts.{lowered_function_of}
use Rattle.rc_doc.specs.Places.{argument_of, place_of, span_of}
use Rattle.rc_doc.specs.Reading.{◌>>=◌, field, flag_field, list_field, number_of, only, option_field, text_of}

-- a call of a constructor
unfoldable pub new_expression_of : Data → Option InstructionValue
new_expression_of d = do
  _ ← only (codes "args" ∷ codes "callee" ∷ codes "k" ∷ codes "span" ∷ []) d
  callee ← field place_of (codes "callee") d
  args ← list_field argument_of (codes "args") d
  span ← option_field span_of (codes "span") d
  Some (kinds.NewExpression callee args span)

-- a call of a function
unfoldable pub call_expression_of : Data → Option InstructionValue
call_expression_of d = do
  _ ← only (codes "args" ∷ codes "callee" ∷ codes "k" ∷ codes "span" ∷ []) d
  callee ← field place_of (codes "callee") d
  args ← list_field argument_of (codes "args") d
  span ← option_field span_of (codes "span") d
  Some (kinds.CallExpression callee args span)

-- a call of a method
unfoldable pub method_call_of : Data → Option InstructionValue
method_call_of d = do
  _ ← only (codes "args" ∷ codes "k" ∷ codes "property" ∷ codes "receiver" ∷ codes "span" ∷ []) d
  receiver ← field place_of (codes "receiver") d
  property ← field place_of (codes "property") d
  args ← list_field argument_of (codes "args") d
  span ← option_field span_of (codes "span") d
  Some (kinds.MethodCall receiver property args span)

-- a method of an object literal
unfoldable pub object_method_of : Data → Option InstructionValue
object_method_of d = do
  _ ← only (codes "k" ∷ codes "lowered_func" ∷ codes "span" ∷ []) d
  lowered_func ← field lowered_function_of (codes "lowered_func") d
  span ← option_field span_of (codes "span") d
  Some (kinds.ObjectMethod lowered_func span)

-- a function as a value
unfoldable pub function_expression_of : Data → Option InstructionValue
function_expression_of d = do
  _ ← only (codes "k" ∷ codes "lowered_func" ∷ codes "name" ∷ codes "span" ∷ []) d
  name ← option_field text_of (codes "name") d
  lowered_func ← field lowered_function_of (codes "lowered_func") d
  span ← option_field span_of (codes "span") d
  Some (kinds.FunctionExpression name lowered_func span)

-- a `debugger` statement
unfoldable pub debugger_of : Data → Option InstructionValue
debugger_of d = do
  _ ← only (codes "k" ∷ codes "span" ∷ []) d
  span ← option_field span_of (codes "span") d
  Some (kinds.Debugger span)

-- the start of a memoization by hand
unfoldable pub start_memoize_of : Data → Option InstructionValue
start_memoize_of d = do
  _ ← only (codes "deps" ∷ codes "k" ∷ codes "manual_memo_id" ∷ codes "span" ∷ []) d
  manual_memo_id ← field number_of (codes "manual_memo_id") d
  deps ← list_field place_of (codes "deps") d
  span ← option_field span_of (codes "span") d
  Some (kinds.StartMemoize manual_memo_id deps span)

-- the end of a memoization by hand
unfoldable pub finish_memoize_of : Data → Option InstructionValue
finish_memoize_of d = do
  _ ← only (codes "decl" ∷ codes "k" ∷ codes "manual_memo_id" ∷ codes "pruned" ∷ codes "span" ∷ []) d
  manual_memo_id ← field number_of (codes "manual_memo_id") d
  decl ← field place_of (codes "decl") d
  pruned ← flag_field (codes "pruned") d
  span ← option_field span_of (codes "span") d
  Some (kinds.FinishMemoize manual_memo_id decl pruned span)

-- the kinds of this family, by their names
abbrev pub call_kinds : Data → List (List ℕ × Option InstructionValue)
call_kinds d =
    (codes "MethodCall", method_call_of d)
    ∷ (codes "CallExpression", call_expression_of d)
    ∷ (codes "FunctionExpression", function_expression_of d)
    ∷ (codes "NewExpression", new_expression_of d)
    ∷ (codes "ObjectMethod", object_method_of d)
    ∷ (codes "Debugger", debugger_of d)
    ∷ (codes "StartMemoize", start_memoize_of d)
    ∷ (codes "FinishMemoize", finish_memoize_of d)
    ∷ []
