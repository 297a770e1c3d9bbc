-- Statements have the runs in another environment that they have in the first one, if their values run alike in both.
use Rattle.std.proofs.Common.{◌≡◌, ◌∙◌, Bool, List, Option, Some, ap, subst}
use Rattle.rc_names.specs.Numbers.{EvaluationOrder}
use Rattle.rc_hir.specs.Model.{Environment, Place}
use Rattle.rc_tree.specs.Model.{ReactiveLabel}
use Rattle.rc_runs.specs.Event.{Event}
use Rattle.rc_runs.specs.LoopParts.{LoopParts}
use Rattle.rc_runs.specs.PlainTree.{Alternate, Cases, Rows, Statement, Statements, Value}
use Rattle.rc_runs.specs.ValueRun.{Progress, RunsRow, RunsRows, RunsValue, did_and_stopped, did_value, goes_past_row}
use Rattle.rc_runs.specs.ValueRun.{in_condition, in_left, in_optional_test, in_other_optional, in_row, in_sequence}
use Rattle.rc_runs.specs.ValueRun.{left_decides, past_row, past_rows, quiet_value, set_row, took_alternate}
use Rattle.rc_runs.specs.ValueRun.{took_consequent, took_rest, took_right, took_short_end, unset_row, value_stopped}
use Rattle.rc_runs.specs.ValueRun.{is_row_of_test}
use Rattle.rc_runs.specs.Completion.{Completion}
use Rattle.rc_runs.specs.BodyRun.{Spot, RunsAlternate, RunsCases, RunsChosen, RunsList, RunsLoop}
use Rattle.rc_runs.specs.BodyRun.{RunsStatement, absent, and_then, break_implicit, break_labeled, break_unlabeled}
use Rattle.rc_runs.specs.BodyRun.{chosen_here, chosen_later, continue_implicit, continue_labeled, continue_unlabeled}
use Rattle.rc_runs.specs.BodyRun.{falls_into, goes_on, in_before, in_case, in_do_while, in_for_in, in_for_of, in_init}
use Rattle.rc_runs.specs.BodyRun.{in_handler, in_label, in_pruned_scope, in_scope, in_test, in_try, in_while}
use Rattle.rc_runs.specs.BodyRun.{leaves_case, leaves_list, leaves_loop, next_turn, no_more_cases, nothing}
use Rattle.rc_runs.specs.BodyRun.{nothing_before, past_before, past_cases, past_init, present, returned, row, stopped}
use Rattle.rc_runs.specs.BodyRun.{test_fails, test_holds, thrown, took_arm, took_other}
use Rattle.rc_early.proofs.KeptRuns.PlainParts.{HoldsAll, HoldsCases, HoldsIf, HoldsOf, OfOption}
use Rattle.rc_early.proofs.KeptRuns.ValuesAlike.{RowAlike, RowsAlike, ValueAlike, alike_values}

module _ (old new : Environment) where
  -- whether the run goes on after a row
  past_alike : {past : Bool} (is_test : Bool) (target : Option Place) (own : Value) (rest : Rows) (value : Value)
      (progress : Progress) → RowAlike old new target own rest value
      → goes_past_row (is_row_of_test old is_test target own rest value) progress ≡ past
      → goes_past_row (is_row_of_test new is_test target own rest value) progress ≡ past
  past_alike is_test target own rest value progress same e =
      ap (λ of_test. goes_past_row of_test progress) (same is_test) ∙ e

  mutual
    value_elsewhere : {is_test : Bool} {value : Value} {events : List Event} {progress : Progress}
        → ValueAlike old new value → RunsValue old is_test value events progress
        → RunsValue new is_test value events progress
    value_elsewhere h value_stopped = value_stopped
    value_elsewhere h (quiet_value e) = quiet_value (h ∙ e)
    value_elsewhere h (did_value e) = did_value (h ∙ e)
    value_elsewhere h (did_and_stopped e) = did_and_stopped (h ∙ e)
    value_elsewhere h (in_sequence r) = in_sequence (rows_elsewhere h.0 h.1 r)
    value_elsewhere h (in_condition r) = in_condition (value_elsewhere h.0 r)
    value_elsewhere h (took_consequent r past arm p e) =
        took_consequent (value_elsewhere h.0 r) past (value_elsewhere h.1 arm) p e
    value_elsewhere h (took_alternate r past arm p e) =
        took_alternate (value_elsewhere h.0 r) past (value_elsewhere h.2 arm) p e
    value_elsewhere h (in_left r) = in_left (value_elsewhere h.0 r)
    value_elsewhere h (left_decides r past at e) = left_decides (value_elsewhere h.0 r) past at e
    value_elsewhere h (took_right r past arm p e) =
        took_right (value_elsewhere h.0 r) past (value_elsewhere h.1 arm) p e
    value_elsewhere h (in_optional_test r not_done) = in_optional_test (row_elsewhere h.0.0 r) not_done
    value_elsewhere h (took_short_end r at e) = took_short_end (row_elsewhere h.0.0 r) at e
    value_elsewhere h (took_rest r rest p e) = took_rest (row_elsewhere h.0.0 r) (value_elsewhere h.1 rest) p e
    value_elsewhere h (in_other_optional other r p) = in_other_optional other (value_elsewhere h r) p

    rows_elsewhere : {is_test : Bool} {rows : Rows} {value : Value} {events : List Event} {progress : Progress}
        → RowsAlike old new rows value → ValueAlike old new value → RunsRows old is_test rows value events progress
        → RunsRows new is_test rows value events progress
    rows_elsewhere h k (past_rows r) = past_rows (value_elsewhere k r)
    rows_elsewhere {is_test} {value = value} h k
        (past_row {target = target} {own = own} {rest = rest} {row = p} r past more e) =
        past_row (row_elsewhere h.0 r) (past_alike is_test target own rest value p h.1 past)
        (rows_elsewhere h.2 k more) e
    rows_elsewhere {is_test} {value = value} h k
        (in_row {target = target} {own = own} {rest = rest} {progress = p} r past) =
        in_row (row_elsewhere h.0 r) (past_alike is_test target own rest value p h.1 past)

    row_elsewhere : {is_test : Bool} {id : EvaluationOrder} {value : Value} {events : List Event} {progress : Progress}
        → ValueAlike old new value → RunsRow old is_test id value events progress
        → RunsRow new is_test id value events progress
    row_elsewhere h (unset_row e) = unset_row e
    row_elsewhere h (set_row e r) = set_row e (value_elsewhere h r)

  -- the values of a loop, and its body
  abbrev LoopAlike : LoopParts → Type 0
  LoopAlike loop = OfOption (alike_values old new) loop.before × ValueAlike old new loop.test
      × HoldsAll (alike_values old new) loop.body

  before_alike : (before : Option Value) (value : Value) → before ≡ Some value
      → OfOption (alike_values old new) before → ValueAlike old new value
  before_alike before value e h = subst (OfOption (alike_values old new)) e h

  mutual
    pub list_elsewhere : {statements : Statements} {events : List Event} {outcome : Completion}
        → HoldsAll (alike_values old new) statements → RunsList old statements events outcome
        → RunsList new statements events outcome
    list_elsewhere h stopped = stopped
    list_elsewhere h nothing = nothing
    list_elsewhere h (and_then first (goes_on rest) e) =
        and_then (statement_elsewhere h.0 first) (goes_on (list_elsewhere h.1 rest)) e
    list_elsewhere h (and_then first (leaves_list l) e) = and_then (statement_elsewhere h.0 first) (leaves_list l) e

    statement_elsewhere : {statement : Statement} {events : List Event} {outcome : Completion}
        → HoldsOf (alike_values old new) statement → RunsStatement old statement events outcome
        → RunsStatement new statement events outcome
    statement_elsewhere h (row run e) = row (row_elsewhere h run) e
    statement_elsewhere h returned = returned
    statement_elsewhere h thrown = thrown
    statement_elsewhere h break_implicit = break_implicit
    statement_elsewhere h (break_labeled e) = break_labeled e
    statement_elsewhere h break_unlabeled = break_unlabeled
    statement_elsewhere h continue_implicit = continue_implicit
    statement_elsewhere h continue_labeled = continue_labeled
    statement_elsewhere h continue_unlabeled = continue_unlabeled
    statement_elsewhere h (took_arm run e) = took_arm (list_elsewhere h.0 run) e
    statement_elsewhere h (took_other run e) = took_other (alternate_elsewhere h.1 run) e
    statement_elsewhere h (in_case run e) = in_case (chosen_elsewhere h run) e
    statement_elsewhere h (past_cases e) = past_cases e
    statement_elsewhere h (in_while run) = in_while (loop_elsewhere (tt, h.0, h.1) run)
    statement_elsewhere h (in_do_while run) = in_do_while (loop_elsewhere (tt, h.0, h.1) run)
    statement_elsewhere h (in_init run) = in_init (value_elsewhere h.0.0 run)
    statement_elsewhere h (past_init run past later e) =
        past_init (value_elsewhere h.0.0 run) past (loop_elsewhere (h.0.2, h.0.1, h.1) later) e
    statement_elsewhere h (in_for_of run) = in_for_of (loop_elsewhere (h.0.0, h.0.1, h.1) run)
    statement_elsewhere h (in_for_in run) = in_for_in (loop_elsewhere (tt, h.0, h.1) run)
    statement_elsewhere h (in_label run e) = in_label (list_elsewhere h run) e
    statement_elsewhere h (in_try run stays e) = in_try (list_elsewhere h.0 run) stays e
    statement_elsewhere h (in_handler run reaches later e w) =
        in_handler (list_elsewhere h.0 run) reaches (list_elsewhere h.1 later) e w
    statement_elsewhere h (in_scope run) = in_scope (list_elsewhere h run)
    statement_elsewhere h (in_pruned_scope run) = in_pruned_scope (list_elsewhere h run)

    chosen_elsewhere : {chosen : Option Place} {cases : Cases} {events : List Event} {outcome : Completion}
        → HoldsCases (alike_values old new) cases → RunsChosen old chosen cases events outcome
        → RunsChosen new chosen cases events outcome
    chosen_elsewhere h (chosen_here run) = chosen_here (cases_elsewhere h run)
    chosen_elsewhere h (chosen_later run) = chosen_later (chosen_elsewhere h.1 run)

    cases_elsewhere : {cases : Cases} {events : List Event} {outcome : Completion}
        → HoldsCases (alike_values old new) cases → RunsCases old cases events outcome
        → RunsCases new cases events outcome
    cases_elsewhere h no_more_cases = no_more_cases
    cases_elsewhere h (falls_into run rest e) =
        falls_into (alternate_elsewhere h.0 run) (cases_elsewhere h.1 rest) e
    cases_elsewhere h (leaves_case run e) = leaves_case (alternate_elsewhere h.0 run) e

    loop_elsewhere : {label : Option ReactiveLabel} {loop : LoopParts} {spot : Spot} {events : List Event}
        {outcome : Completion} → LoopAlike loop → RunsLoop old label loop spot events outcome
        → RunsLoop new label loop spot events outcome
    loop_elsewhere h (nothing_before none run) = nothing_before none (loop_elsewhere h run)
    loop_elsewhere h (in_before some run) =
        in_before some (value_elsewhere (before_alike _ _ some h.0) run)
    loop_elsewhere h (past_before some run past later e) =
        past_before some (value_elsewhere (before_alike _ _ some h.0) run) past (loop_elsewhere h later) e
    loop_elsewhere h (in_test run) = in_test (value_elsewhere h.1 run)
    loop_elsewhere h (test_fails run past e) = test_fails (value_elsewhere h.1 run) past e
    loop_elsewhere h (test_holds run past later e) =
        test_holds (value_elsewhere h.1 run) past (loop_elsewhere h later) e
    loop_elsewhere h (next_turn run again later e) =
        next_turn (list_elsewhere h.2 run) again (loop_elsewhere h later) e
    loop_elsewhere h (leaves_loop run ends e) = leaves_loop (list_elsewhere h.2 run) ends e

    alternate_elsewhere : {alternate : Alternate} {events : List Event} {outcome : Completion}
        → HoldsIf (alike_values old new) alternate → RunsAlternate old alternate events outcome
        → RunsAlternate new alternate events outcome
    alternate_elsewhere h absent = absent
    alternate_elsewhere h (present run) = present (list_elsewhere h run)
