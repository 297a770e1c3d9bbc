-- A run of statements may stop wherever it has come.
use Rattle.std.proofs.Common.{◌≡◌, List, [], Option, refl, sym, ap, ◌∙◌, subst}
use Rattle.std.proofs.lemmas.List.{append-nil}
use Rattle.rc_hir.specs.Model.{Place, Environment}
use Rattle.rc_tree.specs.Model.{ReactiveLabel}
use Rattle.rc_runs.specs.Event.{Event, Open}
use Rattle.rc_runs.specs.PlainTree.{Statements, Cons, Statement, Alternate, Cases}
use Rattle.rc_runs.specs.LoopParts.{LoopParts}
use Rattle.rc_runs.specs.ValueRun.{unset_row, set_row}
use Rattle.rc_runs.specs.Completion.{Completion, Normal, Ended, caught, caught_unlabeled}
use Rattle.rc_runs.specs.BodyRun.{Spot, RunsList, RunsStatement, RunsLoop, RunsCases, RunsChosen, RunsAlternate}
use Rattle.rc_runs.specs.BodyRun as body
use Rattle.rc_runs.proofs.FlattenedRuns.{value_stops}
use Rattle.rc_runs.proofs.FramesLemmas.{caught-ended, caught-normal}

-- a run of a part stops inside it, or comes past it
data Stops (R : List Event → Completion → Type 0) (events : List Event) : Type 0 where
  inside : R events (Ended Open) → Stops R events
  past : R events Normal → Stops R events

-- so does a run of a statement, if it has come to its first event
data StatementStops (R : List Event → Completion → Type 0) (events : List Event) : Type 0 where
  at_start : events ≡ [] → StatementStops R events
  stops : Stops R events → StatementStops R events

-- the runs of a part, and those of the whole
stops_as : {R S : List Event → Completion → Type 0} {events all : List Event}
    → ((outcome : Completion) → R events outcome → S all outcome) → Stops R events → Stops S all
stops_as put (inside here) = inside (put (Ended Open) here)
stops_as put (past here) = past (put Normal here)

-- a part in a statement that makes `whole` of its completion
stops_within : {R S : List Event → Completion → Type 0} {events all : List Event} (whole : Completion → Completion)
    → whole (Ended Open) ≡ Ended Open → whole Normal ≡ Normal
    → ((inner outer : Completion) → R events inner → outer ≡ whole inner → S all outer) → Stops R events → Stops S all
stops_within whole over normal put (inside here) = inside (put (Ended Open) (Ended Open) here (sym over))
stops_within whole over normal put (past here) = past (put Normal Normal here (sym normal))

module _ {env : Environment} where
  -- the statements after one
  after_stops : {statement : Statement} {rest : Statements} {events : List Event}
      → StatementStops (RunsStatement env statement) events → RunsList env (Cons statement rest) events (Ended Open)
  after_stops {statement} {rest} (at_start e) =
      subst (λ v. RunsList env (Cons statement rest) v (Ended Open)) (sym e) body.stopped
  after_stops {events = events} (stops (inside here)) =
      body.and_then here (body.leaves_list refl) (sym (append-nil events))
  after_stops {events = events} (stops (past here)) =
      body.and_then here (body.goes_on body.stopped) (sym (append-nil events))

  mutual
    pub list_stops : {statements : Statements} {events : List Event} {outcome : Completion}
        → RunsList env statements events outcome → RunsList env statements events (Ended Open)
    list_stops body.stopped = body.stopped
    list_stops body.nothing = body.stopped
    list_stops (body.and_then x (body.goes_on y) q) = body.and_then x (body.goes_on (list_stops y)) q
    list_stops {statements} (body.and_then {first = a} x (body.leaves_list h) q) =
        subst (λ v. RunsList env statements v (Ended Open)) (sym (q ∙ append-nil a)) (after_stops (statement_stops x))

    statement_stops : {statement : Statement} {events : List Event} {outcome : Completion}
        → RunsStatement env statement events outcome → StatementStops (RunsStatement env statement) events
    statement_stops (body.row (unset_row u) o) = at_start refl
    statement_stops (body.row (set_row s x) o) = stops (inside (body.row (set_row s (value_stops x)) refl))
    statement_stops body.returned = at_start refl
    statement_stops body.thrown = at_start refl
    statement_stops body.break_implicit = at_start refl
    statement_stops (body.break_labeled o) = at_start refl
    statement_stops body.break_unlabeled = at_start refl
    statement_stops body.continue_implicit = at_start refl
    statement_stops body.continue_labeled = at_start refl
    statement_stops body.continue_unlabeled = at_start refl
    statement_stops (body.took_arm {label = label} x q) =
        stops (inside (body.took_arm (list_stops x) (sym (caught-ended label Open))))
    statement_stops (body.took_other {label = label} x q) =
        stops (stops_within (caught label) (caught-ended label Open) (caught-normal label)
        (λ inner outer here e. body.took_other here e) (alternate_stops x))
    statement_stops (body.in_case {label = label} x q) =
        stops (stops_within (caught_unlabeled label) (caught-ended label Open) (caught-normal label)
        (λ inner outer here e. body.in_case here e) (chosen_stops x))
    statement_stops (body.past_cases none) = stops (past (body.past_cases none))
    statement_stops (body.in_while x) = stops (stops_as (λ outcome here. body.in_while here) (loop_stops x))
    statement_stops (body.in_do_while x) = stops (stops_as (λ outcome here. body.in_do_while here) (loop_stops x))
    statement_stops (body.in_init v) = stops (inside (body.in_init v))
    statement_stops (body.past_init v h x q) =
        stops (stops_as (λ outcome here. body.past_init v h here q) (loop_stops x))
    statement_stops (body.in_for_of x) = stops (stops_as (λ outcome here. body.in_for_of here) (loop_stops x))
    statement_stops (body.in_for_in x) = stops (stops_as (λ outcome here. body.in_for_in here) (loop_stops x))
    statement_stops (body.in_label {label = label} x q) =
        stops (inside (body.in_label (list_stops x) (sym (caught-ended label Open))))
    statement_stops (body.in_try {label = label} x safe q) =
        stops (inside (body.in_try (list_stops x) refl (sym (caught-ended label Open))))
    statement_stops (body.in_handler {label = label} x reach y o q) =
        stops (inside (body.in_handler x reach (list_stops y) (sym (caught-ended label Open)) q))
    statement_stops (body.in_scope x) = stops (inside (body.in_scope (list_stops x)))
    statement_stops (body.in_pruned_scope x) = stops (inside (body.in_pruned_scope (list_stops x)))

    alternate_stops : {alternate : Alternate} {events : List Event} {outcome : Completion}
        → RunsAlternate env alternate events outcome → Stops (RunsAlternate env alternate) events
    alternate_stops body.absent = past body.absent
    alternate_stops (body.present x) = inside (body.present (list_stops x))

    chosen_stops : {chosen : Option Place} {cases : Cases} {events : List Event} {outcome : Completion}
        → RunsChosen env chosen cases events outcome → Stops (RunsChosen env chosen cases) events
    chosen_stops (body.chosen_here x) = stops_as (λ outcome here. body.chosen_here here) (cases_stop x)
    chosen_stops (body.chosen_later x) = stops_as (λ outcome here. body.chosen_later here) (chosen_stops x)

    cases_stop : {cases : Cases} {events : List Event} {outcome : Completion} → RunsCases env cases events outcome
        → Stops (RunsCases env cases) events
    cases_stop body.no_more_cases = past body.no_more_cases
    cases_stop (body.falls_into x y q) = stops_as (λ outcome here. body.falls_into x here q) (cases_stop y)
    cases_stop (body.leaves_case (body.present x) h) = inside (body.leaves_case (body.present (list_stops x)) refl)
    cases_stop (body.leaves_case body.absent h) = absurd (let bad : ⊥ = cc in bad)

    loop_stops : {label : Option ReactiveLabel} {parts : LoopParts} {spot : Spot} {events : List Event}
        {outcome : Completion} → RunsLoop env label parts spot events outcome
        → Stops (RunsLoop env label parts spot) events
    loop_stops (body.nothing_before e x) = stops_as (λ outcome here. body.nothing_before e here) (loop_stops x)
    loop_stops (body.in_before e v) = inside (body.in_before e v)
    loop_stops (body.past_before e v h x q) = stops_as (λ outcome here. body.past_before e v h here q) (loop_stops x)
    loop_stops (body.in_test v) = inside (body.in_test v)
    loop_stops (body.test_fails v h q) = past (body.test_fails v h q)
    loop_stops (body.test_holds v h x q) = stops_as (λ outcome here. body.test_holds v h here q) (loop_stops x)
    loop_stops (body.next_turn x again y q) = stops_as (λ outcome here. body.next_turn x again here q) (loop_stops y)
    loop_stops {label} (body.leaves_loop x left q) =
        inside (body.leaves_loop (list_stops x) refl (sym (caught-ended label Open)))
