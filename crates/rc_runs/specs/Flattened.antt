-- Flattening of a loop's part: the rows of nested sequences are put in one sequence, whose own value is `undefined`.
use Rattle.std.specs.Prelude.{Bool, false, Option, Some, if◌then◌else◌}
use Rattle.rc_names.specs.Numbers.{EvaluationOrder, same_id}
use Rattle.rc_names.specs.declared.span.Span.{Span}
use Rattle.rc_hir.specs.Model.{Place}
use Rattle.rc_hir.specs.declared.instruction.InstructionValue.TheVariants as kinds
use Rattle.rc_hir.specs.declared.instruction.PrimitiveValue.TheVariants as primitives
use Rattle.rc_runs.specs.PlainTree.{Value, Base, Sequence, Rows, NoRows, Row}

-- rows, and then further ones
abbrev pub rows_join : Rows → Rows → Rows
rows_join NoRows more = more
rows_join (Row id target own span rest) more = Row id target own span (rows_join rest more)

-- the rows of a value's sequence, then those of the sequence that is its value, and so on
abbrev pub flat_rows : Value → Rows
flat_rows (Sequence rows id value) = rows_join rows (flat_rows value)
flat_rows _ = NoRows

-- the first value on this way that is no sequence
abbrev pub final_value : Value → Value
final_value (Sequence rows id value) = final_value value
final_value value = value

-- the value loads the place's own identifier
abbrev pub loads_own : Place → Value → Bool
loads_own place (Base (kinds.LoadLocal loaded span)) = same_id place.identifier loaded.identifier
loads_own place _ = false

-- the row for the final value; none if that only loads the answer place
abbrev pub final_row : Place → EvaluationOrder → Option Span → Value → Rows
final_row answer id span value = if loads_own answer value then NoRows else Row id (Some answer) value span NoRows

-- a value with that answer place and that id, flattened in a loop with that span
abbrev pub flattened : Place → EvaluationOrder → Option Span → Value → Value
flattened answer id span value =
    Sequence (rows_join (flat_rows value) (final_row answer id span (final_value value))) id
    (Base (kinds.Primitive primitives.Undefined span))
