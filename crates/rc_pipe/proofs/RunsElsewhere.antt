-- A body has the same runs whatever the scopes of its environment are, where none of them has an early return.
use Rattle.std.proofs.Common.{◌≡◌, ◌∙◌, ◌↔◌, Bool, true, false, List, Option, Some, None, refl, sym, ap}
use Rattle.rc_hir.specs.Model.{Environment, InstructionValue, Place, ReactiveScope}
use Rattle.rc_hir.specs.declared.instruction.InstructionValue.TheVariants as kinds
use Rattle.rc_names.specs.Numbers.{EvaluationOrder}
use Rattle.rc_tree.specs.Model.{ReactiveFunction, ReactiveLabel}
use Rattle.rc_runs.specs.Completion.{Completion}
use Rattle.rc_runs.specs.BodyRun.{Spot, IsBodyRun, RunsAfter, RunsAlternate, RunsCases, RunsChosen, RunsList, RunsLoop}
use Rattle.rc_runs.specs.BodyRun.{RunsStatement, absent, and_then, break_implicit, break_labeled, break_unlabeled}
use Rattle.rc_runs.specs.BodyRun.{chosen_here, chosen_later, continue_implicit, continue_labeled, continue_unlabeled}
use Rattle.rc_runs.specs.BodyRun.{falls_into, goes_on, in_before, in_case, in_do_while, in_for_in, in_for_of, in_init}
use Rattle.rc_runs.specs.BodyRun.{in_handler, in_label, in_pruned_scope, in_scope, in_test, in_try, in_while}
use Rattle.rc_runs.specs.BodyRun.{leaves_case, leaves_list, leaves_loop, next_turn, no_more_cases, nothing}
use Rattle.rc_runs.specs.BodyRun.{nothing_before, past_before, past_cases, past_init, present, returned, row, stopped}
use Rattle.rc_runs.specs.BodyRun.{test_fails, test_holds, thrown, took_arm, took_other}
use Rattle.rc_runs.specs.Event.{Event, End}
use Rattle.rc_runs.specs.LoopParts.{LoopParts}
use Rattle.rc_runs.specs.AnsweredTest.{answers_test}
use Rattle.rc_runs.specs.EarlyReturns.{NoEarlyReturnSet}
use Rattle.rc_runs.proofs.ReturningLemmas.{statements_run, body_run}
use Rattle.rc_runs.specs.PlainTree.{Alternate, Base, Cases, NoRows, Optional, Row, Rows, Statement, Statements, Value}
use Rattle.rc_runs.specs.Silent.{is_silent_value}
use Rattle.rc_runs.specs.ValueRun.{Progress, RunsRow, RunsRows, RunsValue, did_and_stopped, did_value, goes_past_row}
use Rattle.rc_runs.specs.ValueRun.{in_condition, in_left, in_optional_test, in_other_optional, in_row, in_sequence}
use Rattle.rc_runs.specs.ValueRun.{is_row_of_test, left_decides, past_row, past_rows, quiet_value, set_row}
use Rattle.rc_runs.specs.ValueRun.{took_alternate, took_consequent, took_rest, took_right, took_short_end, unset_row}
use Rattle.rc_runs.specs.ValueRun.{value_stopped}

-- in both environments the same values are silent, and the same ones answer a test
record RunsAlike (old new : Environment) : Type 0 where
  silence : (value : InstructionValue) → is_silent_value new value ≡ is_silent_value old value
  answers : (place : Place) (value : Value) → answers_test new place value ≡ answers_test old place value

module _ (old new : Environment) (same : RunsAlike old new) where
  -- whether the run goes on after a row
  row_alike : (is_test : Bool) (target : Option Place) (own : Value) (rest : Rows) (value : Value)
      → is_row_of_test new is_test target own rest value ≡ is_row_of_test old is_test target own rest value
  row_alike false target own rest value = refl
  row_alike true (Some place) (Optional own optional) NoRows value = same.answers place value
  row_alike true (Some place) (Optional own optional) (Row id target other span rest) value = refl
  row_alike true None own rest value = refl
  row_alike true (Some place) own rest value = refl

  past_alike : {past : Bool} (is_test : Bool) (target : Option Place) (own : Value) (rest : Rows) (value : Value)
      (progress : Progress) → goes_past_row (is_row_of_test old is_test target own rest value) progress ≡ past
      → goes_past_row (is_row_of_test new is_test target own rest value) progress ≡ past
  past_alike is_test target own rest value progress e =
      ap (λ of_test. goes_past_row of_test progress) (row_alike is_test target own rest value) ∙ e

  mutual
    value_elsewhere : {is_test : Bool} {value : Value} {events : List Event} {progress : Progress}
        → RunsValue old is_test value events progress → RunsValue new is_test value events progress
    value_elsewhere value_stopped = value_stopped
    value_elsewhere (quiet_value {value = value} e) = quiet_value (same.silence value ∙ e)
    value_elsewhere (did_value {value = value} e) = did_value (same.silence value ∙ e)
    value_elsewhere (did_and_stopped {value = value} e) = did_and_stopped (same.silence value ∙ e)
    value_elsewhere (in_sequence r) = in_sequence (rows_elsewhere r)
    value_elsewhere (in_condition r) = in_condition (value_elsewhere r)
    value_elsewhere (took_consequent r past arm p e) =
        took_consequent (value_elsewhere r) past (value_elsewhere arm) p e
    value_elsewhere (took_alternate r past arm p e) = took_alternate (value_elsewhere r) past (value_elsewhere arm) p e
    value_elsewhere (in_left r) = in_left (value_elsewhere r)
    value_elsewhere (left_decides r past at e) = left_decides (value_elsewhere r) past at e
    value_elsewhere (took_right r past arm p e) = took_right (value_elsewhere r) past (value_elsewhere arm) p e
    value_elsewhere (in_optional_test r not_done) = in_optional_test (row_elsewhere r) not_done
    value_elsewhere (took_short_end r at e) = took_short_end (row_elsewhere r) at e
    value_elsewhere (took_rest r rest p e) = took_rest (row_elsewhere r) (value_elsewhere rest) p e
    value_elsewhere (in_other_optional other r p) = in_other_optional other (value_elsewhere r) p

    rows_elsewhere : {is_test : Bool} {rows : Rows} {value : Value} {events : List Event} {progress : Progress}
        → RunsRows old is_test rows value events progress → RunsRows new is_test rows value events progress
    rows_elsewhere (past_rows r) = past_rows (value_elsewhere r)
    rows_elsewhere {is_test} {value = value} (past_row {target = target} {own = own} {rest = rest} {row = p} r past more
        e) =
        past_row (row_elsewhere r) (past_alike is_test target own rest value p past) (rows_elsewhere more) e
    rows_elsewhere {is_test} {value = value}
        (in_row {target = target} {own = own} {rest = rest} {progress = p} r past) =
        in_row (row_elsewhere r) (past_alike is_test target own rest value p past)

    row_elsewhere : {is_test : Bool} {id : EvaluationOrder} {value : Value} {events : List Event} {progress : Progress}
        → RunsRow old is_test id value events progress → RunsRow new is_test id value events progress
    row_elsewhere (unset_row e) = unset_row e
    row_elsewhere (set_row e r) = set_row e (value_elsewhere r)

  mutual
    list_elsewhere : {statements : Statements} {events : List Event} {outcome : Completion}
        → RunsList old statements events outcome → RunsList new statements events outcome
    list_elsewhere stopped = stopped
    list_elsewhere nothing = nothing
    list_elsewhere (and_then first rest e) = and_then (statement_elsewhere first) (after_elsewhere rest) e

    after_elsewhere : {first outcome : Completion} {statements : Statements} {events : List Event}
        → RunsAfter old first statements events outcome → RunsAfter new first statements events outcome
    after_elsewhere (goes_on run) = goes_on (list_elsewhere run)
    after_elsewhere (leaves_list e) = leaves_list e

    statement_elsewhere : {statement : Statement} {events : List Event} {outcome : Completion}
        → RunsStatement old statement events outcome → RunsStatement new statement events outcome
    statement_elsewhere (row run e) = row (row_elsewhere run) e
    statement_elsewhere returned = returned
    statement_elsewhere thrown = thrown
    statement_elsewhere break_implicit = break_implicit
    statement_elsewhere (break_labeled e) = break_labeled e
    statement_elsewhere break_unlabeled = break_unlabeled
    statement_elsewhere continue_implicit = continue_implicit
    statement_elsewhere continue_labeled = continue_labeled
    statement_elsewhere continue_unlabeled = continue_unlabeled
    statement_elsewhere (took_arm run e) = took_arm (list_elsewhere run) e
    statement_elsewhere (took_other run e) = took_other (alternate_elsewhere run) e
    statement_elsewhere (in_case run e) = in_case (chosen_elsewhere run) e
    statement_elsewhere (past_cases e) = past_cases e
    statement_elsewhere (in_while run) = in_while (loop_elsewhere run)
    statement_elsewhere (in_do_while run) = in_do_while (loop_elsewhere run)
    statement_elsewhere (in_init run) = in_init (value_elsewhere run)
    statement_elsewhere (past_init run past later e) = past_init (value_elsewhere run) past (loop_elsewhere later) e
    statement_elsewhere (in_for_of run) = in_for_of (loop_elsewhere run)
    statement_elsewhere (in_for_in run) = in_for_in (loop_elsewhere run)
    statement_elsewhere (in_label run e) = in_label (list_elsewhere run) e
    statement_elsewhere (in_try run stays e) = in_try (list_elsewhere run) stays e
    statement_elsewhere (in_handler run reaches later e w) =
        in_handler (list_elsewhere run) reaches (list_elsewhere later) e w
    statement_elsewhere (in_scope run) = in_scope (list_elsewhere run)
    statement_elsewhere (in_pruned_scope run) = in_pruned_scope (list_elsewhere run)

    chosen_elsewhere : {chosen : Option Place} {cases : Cases} {events : List Event} {outcome : Completion}
        → RunsChosen old chosen cases events outcome → RunsChosen new chosen cases events outcome
    chosen_elsewhere (chosen_here run) = chosen_here (cases_elsewhere run)
    chosen_elsewhere (chosen_later run) = chosen_later (chosen_elsewhere run)

    cases_elsewhere : {cases : Cases} {events : List Event} {outcome : Completion}
        → RunsCases old cases events outcome → RunsCases new cases events outcome
    cases_elsewhere no_more_cases = no_more_cases
    cases_elsewhere (falls_into run rest e) = falls_into (alternate_elsewhere run) (cases_elsewhere rest) e
    cases_elsewhere (leaves_case run e) = leaves_case (alternate_elsewhere run) e

    loop_elsewhere : {label : Option ReactiveLabel} {loop : LoopParts} {spot : Spot} {events : List Event}
        {outcome : Completion} → RunsLoop old label loop spot events outcome
        → RunsLoop new label loop spot events outcome
    loop_elsewhere (nothing_before none run) = nothing_before none (loop_elsewhere run)
    loop_elsewhere (in_before some run) = in_before some (value_elsewhere run)
    loop_elsewhere (past_before some run past later e) =
        past_before some (value_elsewhere run) past (loop_elsewhere later) e
    loop_elsewhere (in_test run) = in_test (value_elsewhere run)
    loop_elsewhere (test_fails run past e) = test_fails (value_elsewhere run) past e
    loop_elsewhere (test_holds run past later e) = test_holds (value_elsewhere run) past (loop_elsewhere later) e
    loop_elsewhere (next_turn run again later e) = next_turn (list_elsewhere run) again (loop_elsewhere later) e
    loop_elsewhere (leaves_loop run ends e) = leaves_loop (list_elsewhere run) ends e

    alternate_elsewhere : {alternate : Alternate} {events : List Event} {outcome : Completion}
        → RunsAlternate old alternate events outcome → RunsAlternate new alternate events outcome
    alternate_elsewhere absent = absent
    alternate_elsewhere (present run) = present (list_elsewhere run)

  run_elsewhere : NoEarlyReturnSet old → NoEarlyReturnSet new → (func : ReactiveFunction) (events : List Event)
      (end : End) → IsBodyRun func old events end → IsBodyRun func new events end
  run_elsewhere before after func events end run =
      body_run new after run.body (list_elsewhere (statements_run old before run))

module _ (env : Environment) (scopes : List ReactiveScope) where
  -- neither depends on scopes
  same_silence : (value : InstructionValue)
      → is_silent_value (record env { scopes = scopes }) value ≡ is_silent_value env value
  unfolding is_silent_value
  same_silence (kinds.StoreLocal lvalue value span) = refl
  same_silence value = refl

  same_answers : (place : Place) (value : Value)
      → answers_test (record env { scopes = scopes }) place value ≡ answers_test env place value
  same_answers place (Base (kinds.LoadLocal loaded span)) = refl
  same_answers place value = refl

  pub runs_with_scopes : NoEarlyReturnSet env → NoEarlyReturnSet (record env { scopes = scopes })
      → (func : ReactiveFunction) (events : List Event) (end : End)
      → IsBodyRun func env events end ↔ IsBodyRun func (record env { scopes = scopes }) events end
  runs_with_scopes before after func events end = (
    run_elsewhere env (record env { scopes = scopes }) (record { silence = same_silence; answers = same_answers }) before
        after func events end,
    run_elsewhere (record env { scopes = scopes }) env
        (record {
          silence = λ value. sym (same_silence value);
          answers = λ place value. sym (same_answers place value);
        })
        after before func events end,
  )
