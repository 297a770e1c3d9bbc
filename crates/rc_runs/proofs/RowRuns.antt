-- Runs of rows that the graph has too, and when a run goes on after a row.
use Rattle.std.proofs.Common.{◌≡◌, Bool, true, false, List, [], ◌∷◌, ◌||◌, refl, sym, ap, ◌∙◌}
use Rattle.std.proofs.lemmas.Bool.{or_parts}
use Rattle.rc_names.specs.Numbers.{EvaluationOrder}
use Rattle.rc_hir.specs.Model.{InstructionValue, Instruction, Environment}
use Rattle.rc_runs.specs.Event.{Event, Did}
use Rattle.rc_runs.specs.Silent.{is_unset, is_silent_value, is_silent}
use Rattle.rc_runs.specs.PlainTree.{Value, Base, NoRows}
use Rattle.rc_runs.specs.LastRow.{rows_then, after_rows}
use Rattle.rc_runs.specs.ValueRun.{Progress, Done, goes_past_row, RunsValue, quiet_value, did_value, in_sequence}
use Rattle.rc_runs.specs.ValueRun.{RunsRows, past_rows, RunsRow, unset_row, set_row}

-- after a row that is done a run always goes on
pub done_goes_past : (ends_test : Bool) → goes_past_row ends_test Done ≡ true
done_goes_past true = refl
done_goes_past false = refl

-- a row that the graph runs with an event or without one
pub quiet_row : {env : Environment} {id : EvaluationOrder} {value : InstructionValue} → is_silent env id value ≡ true
    → RunsRow env false id (Base value) [] Done
quiet_row {env} {id} {value} h = go (is_unset id) refl h
  where
    go : (unset : Bool) → is_unset id ≡ unset → unset || is_silent_value env value ≡ true
        → RunsRow env false id (Base value) [] Done
    go true u h = unset_row u
    go false u h = set_row u (quiet_value h)

pub did_row : {env : Environment} {id : EvaluationOrder} {value : InstructionValue} → is_silent env id value ≡ false
    → RunsRow env false id (Base value) (Did value ∷ []) Done
did_row {env} {id} {value} h =
    let parts = or_parts (is_unset id) (is_silent_value env value) h in
    set_row parts.0 (did_value parts.1)

-- with a set id, a row is silent if its value is
pub silent_value : (env : Environment) (row : Instruction) (silent : Bool) → is_unset row.id ≡ false
    → is_silent env row.id row.value ≡ silent → is_silent_value env row.value ≡ silent
silent_value env row silent set h = ap (λ unset. unset || is_silent_value env row.value) (sym set) ∙ h

-- rows of a block and then a value run as the value that they make together
pub after_rows-run : {env : Environment} {is_test : Bool} (rows : List Instruction) (id : EvaluationOrder)
    {value : Value} {events : List Event} {progress : Progress}
    → RunsRows env is_test (rows_then rows NoRows) value events progress
    → RunsValue env is_test (after_rows rows id value) events progress
after_rows-run [] id (past_rows run) = run
after_rows-run (row ∷ rows) id run = in_sequence run
