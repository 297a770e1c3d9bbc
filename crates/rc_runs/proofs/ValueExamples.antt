-- Runs of optionals in the tests of others, as in `x?.y?.z`: which short end is that of the whole.
use Rattle.std.proofs.Common.{◌≡◌, [], ◌∷◌, Some, true, false, refl, ap}
use Rattle.rc_names.specs.Numbers.{EvaluationOrder}
use Rattle.rc_hir.specs.Model.{Environment, Place}
use Rattle.rc_hir.specs.declared.instruction.InstructionValue.TheVariants as kinds
use Rattle.rc_runs.specs.AnsweredTest.{same_declaration}
use Rattle.rc_runs.specs.Event.{Arm}
use Rattle.rc_runs.specs.PlainTree.{Value, Base, Sequence, Optional, Rows, NoRows, Row}
use Rattle.rc_runs.specs.Silent.{is_unset, is_silent_value}
use Rattle.rc_runs.specs.ValueRun.{Short, Done, goes_past_row, RunsValue, RunsRow, quiet_value, in_sequence}
use Rattle.rc_runs.specs.ValueRun.{in_optional_test, took_short_end, took_rest, past_rows, past_row, in_row, set_row}

module _ (env : Environment) (place : Place) (id : EvaluationOrder) (set : is_unset id ≡ false)
    (declared : same_declaration env place place ≡ true) where
  abbrev load : Value
  load = Base (kinds.LoadLocal place place.span)

  -- one row that writes the place, and then more rows
  abbrev row : Value → Rows → Rows
  row value rest = Row id (Some place) value place.span rest

  -- an optional with that test
  abbrev optional : Value → Value
  optional test = Optional (Sequence (row test NoRows) id load) true

  loaded : {is_test : _} → RunsRow env is_test id load [] Done
  unfolding is_silent_value
  loaded = set_row set (quiet_value refl)

  short : RunsValue env false (optional load) (Arm false ∷ []) Short
  short = took_short_end loaded refl refl

  -- the inner optional answers the outer one's test, so its short end is the outer one's
  short_of_both : RunsValue env false (optional (Sequence (row (optional load) NoRows) id load)) (Arm false ∷ []) Short
  short_of_both =
      in_optional_test (set_row set (in_sequence (in_row (set_row set short)
      (ap (λ of_test. goes_past_row of_test Short) declared)))) refl

  -- with a row after it, it doesn't answer that test: its short end is its own, and the outer optional chooses too
  short_of_one : RunsValue env false (optional (Sequence (row (optional load) (row load NoRows)) id load))
      (Arm false ∷ Arm true ∷ []) Done
  unfolding is_silent_value
  short_of_one =
      took_rest (set_row set (in_sequence (past_row (set_row set short) refl
      (past_row loaded refl (past_rows (quiet_value refl)) refl) refl))) (quiet_value refl) refl refl
