-- The text of a value and of a row, each on one line.
use Rattle.std.specs.Prelude.{ℕ, Bool, true, false, List, [], ◌∷◌, Option, Some, None, if◌then◌else◌, codes, decimal}
use Rattle.serde_json.specs.Written.{compact_text}
use Rattle.rc_names.specs.Numbers.{EvaluationOrder}
use Rattle.rc_hir.specs.Model.{Place, LogicalOperator}
use Rattle.rc_hir.specs.declared.instruction.LogicalOperator.TheVariants.{And, Or, Coalesce}
use Rattle.rc_tree.specs.declared.value.ReactiveValue.{ReactiveValue, fold-ReactiveValue}
use Rattle.rc_tree.specs.declared.value.ReactiveValue.TheOpen.{ReactiveValue-F, Instruction, LogicalExpression}
use Rattle.rc_tree.specs.declared.value.ReactiveValue.TheOpen.{ConditionalExpression, SequenceExpression}
use Rattle.rc_tree.specs.declared.value.ReactiveValue.TheOpen.{OptionalExpression, ReactiveInstruction-F}
use Rattle.rc_tree.specs.declared.value.ReactiveInstruction.{ReactiveInstruction, fold-ReactiveInstruction}
use Rattle.rc_show.specs.ShownKinds.{value_data}
use Rattle.rc_lines.specs.LineText.{◌&◌, bool_text, span_text, place_text}

-- an operator as it is written in the source
abbrev pub operator_text : LogicalOperator → List ℕ
operator_text And = codes "&&"
operator_text Or = codes "||"
operator_text Coalesce = codes "??"

-- a further part between the brackets of a value
abbrev pub next_text : List ℕ → List ℕ
next_text text = codes ", " & text

-- the texts, with a semicolon before each but the first
abbrev pub joined : Bool → List (List ℕ) → List ℕ
joined later [] = []
joined later (text ∷ texts) = (if later then codes "; " else []) & text & joined true texts

-- a sequence as far as its rows
abbrev pub rows_text : EvaluationOrder → List (List ℕ) → List ℕ
rows_text id rows = codes "seq(" & decimal id.0 & codes ", [" & joined false rows & codes "]"

-- the text of a value over the texts of its parts
abbrev pub of_value : ReactiveValue-F (List ℕ) (List ℕ) → List ℕ
of_value (Instruction value) = compact_text (value_data value)
of_value (LogicalExpression operator left right) =
    codes "logical(" & operator_text operator & next_text left & next_text right & codes ")"
of_value (ConditionalExpression test consequent alternate) =
    codes "cond(" & test & next_text consequent & next_text alternate & codes ")"
of_value (SequenceExpression rows id value) = rows_text id rows & next_text value & codes ")"
of_value (OptionalExpression value optional) = codes "opt(" & bool_text optional & next_text value & codes ")"

-- where the value of a row goes
abbrev pub target_text : Option Place → List ℕ
target_text None = codes "_"
target_text (Some place) = place_text place

-- the text of a row over that of its value
abbrev pub of_row : ReactiveInstruction-F (List ℕ) (List ℕ) → List ℕ
of_row row = decimal row.id.0 & codes " " & target_text row.lvalue & codes " = " & row.value & span_text row.span

-- a value
abbrev pub value_text : ReactiveValue → List ℕ
value_text = fold-ReactiveValue (List ℕ) (List ℕ) of_value of_row

-- a row
abbrev pub row_text : ReactiveInstruction → List ℕ
row_text = fold-ReactiveInstruction (List ℕ) (List ℕ) of_value of_row
