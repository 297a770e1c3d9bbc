-- Each run of statements that has no throw is a run from their first position on: by recursion on the run.
use Rattle.std.proofs.Common.{◌≡◌, ℕ, Bool, true, false, List, [], ◌∷◌, ◌++◌, Option, Some, None, refl, sym, ap, ◌∙◌}
use Rattle.std.proofs.Common.{subst}
use Rattle.rc_hir.specs.Model.{Place, Environment}
use Rattle.rc_tree.specs.Model.{ReactiveLabel}
use Rattle.rc_runs.specs.Event.{Event, Arm, Threw, has_throw, End, Open, Returned, Thrown}
use Rattle.rc_runs.specs.PlainTree.{Value, Statements, Statement, Alternate, Cases}
use Rattle.rc_runs.specs.LoopParts.{LoopParts}
use Rattle.rc_runs.specs.ValueRun.{Progress, Done, Short, Inside, RunsValue}
use Rattle.rc_runs.specs.Completion.{Completion, Normal, BreakTo, BreakInnermost, ContinueTo, ContinueLoop, Ended, leaves, caught, row_completion, turns_again}
use Rattle.rc_runs.specs.Completion.{caught_unlabeled, is_thrown}
use Rattle.rc_runs.specs.BodyRun.{has_default, Spot, AtTurn, AtTest, AtBody, RunsList, RunsStatement, RunsLoop, RunsCases}
use Rattle.rc_runs.specs.BodyRun.{RunsChosen, RunsAlternate}
use Rattle.rc_runs.specs.BodyRun as body
use Rattle.rc_runs.proofs.NoThrow.{no_throw_front, no_throw_behind}
use Rattle.rc_replay.specs.inside.Positions.{Choice, Chooses, IsChoice, first as first_choice, later as later_choice, Table}
use Rattle.rc_replay.specs.inside.Positions.{FollowsAt, arrives, enters, passes}
use Rattle.rc_replay.specs.inside.Positions.{test_holds, test_fails, chooses, ends}
use Rattle.rc_replay.specs.inside.Exits.{Exits, is_over, exit, before, labeled, protected, in_switch, in_loop, may_end}
use Rattle.rc_replay.specs.inside.Lowered.{thrown_position, all_choices, LowersBefore, nothing_before, some_before}
use Rattle.rc_replay.specs.inside.Lowered.{LowersList, LowersStatement, LowersAlternate, LowersCases, LowersLoop}
use Rattle.rc_replay.specs.inside.Lowered as lower
use Rattle.rc_replay.proofs.ValueToPositions.{AfterValue, past, past_short, stays, joined, past_either, value_followed}
use Rattle.rc_replay.proofs.ValueToPositions.{row_followed}
use Rattle.rc_replay.proofs.ExitsLemmas.{ended, Catches, caught-catches, caught_unlabeled-catches, turns-go_on}
use Rattle.rc_replay.proofs.ExitsLemmas.{labeled-leads, protected-leads, in_switch-leads, turn_leads, out_leads}
use Rattle.rc_replay.proofs.ExitsLemmas.{before-leads}

-- what follows a part with those exits after a run of it that completed so
pub data AfterPart (table : Table) (exits : Exits) : Completion → List Event → End → Type 0 where
  over : {end : _} → may_end exits.throws end ≡ true → AfterPart table exits (Ended end) [] end
  onward : {outcome events end : _} → is_over outcome ≡ false → FollowsAt table (exit exits outcome) events end →
      AfterPart table exits outcome events end

-- the position at which a place in a loop begins
abbrev spot_at : Spot → (turn test body : ℕ) → ℕ
spot_at AtTurn turn test body = turn
spot_at AtTest turn test body = test
spot_at AtBody turn test body = body

-- a choice among others
last_choice : (choices : List Choice) {test : Option Place} {next : ℕ} → IsChoice (choices ++ (test, next) ∷ []) test next
last_choice [] = first_choice
last_choice (choice ∷ choices) = later_choice (last_choice choices)

front_choice : {choices : List Choice} {test : Option Place} {next : ℕ} (following : List Choice)
    → IsChoice choices test next → IsChoice (choices ++ following) test next
front_choice following first_choice = first_choice
front_choice following (later_choice among) = later_choice (front_choice following among)

kept_choice : {choices : List Choice} {test : Option Place} {next : ℕ} (defaults : Bool) (normal : ℕ)
    → IsChoice choices test next → IsChoice (all_choices defaults normal choices) test next
kept_choice true normal among = among
kept_choice false normal among = front_choice ((None, normal) ∷ []) among

module _ {table : Table} where
  -- a part in a statement that makes `whole` of its completion
  inside_part : {inner outer : Exits} {whole : Completion → Completion} {events : List Event} {end : End}
      {result : Completion} → Catches whole → inner.throws ≡ outer.throws → (outcome : Completion)
      → exit inner outcome ≡ exit outer (whole outcome) → result ≡ whole outcome
      → AfterPart table outer result events end → AfterPart table inner outcome events end
  inside_part {inner} {outer} {whole} {end = end} catches same outcome leads e (over can) =
      let it = ended outcome (sym (catches.alike outcome) ∙ sym (ap is_over e)) in
      let known = catches.over it.0 in
      let one : outcome ≡ Ended end = (let moved = ap whole it.1 in cc) in
      subst (λ o. AfterPart table inner o [] end) (sym one) (over (ap (λ t. may_end t end) same ∙ can))
  inside_part {outer = outer} {events = events} {end} catches same outcome leads e (onward n run) =
      onward (sym (catches.alike outcome) ∙ sym (ap is_over e) ∙ n)
      (subst (λ n. FollowsAt table n events end) (ap (exit outer) e ∙ sym leads) run)

  labeled_part : {exits : Exits} {events : List Event} {end : End} {result outcome : Completion}
      (label : Option ReactiveLabel) → result ≡ caught label outcome → AfterPart table exits result events end
      → AfterPart table (labeled label exits) outcome events end
  labeled_part {exits} {outcome = outcome} label e after =
      inside_part (caught-catches label) refl outcome (labeled-leads exits label outcome) e after

  -- a run of a protected block that goes on, or ends otherwise than by a throw
  protected_part : {events : List Event} {end : End} {outcome : Completion} (exits : Exits)
      (label : Option ReactiveLabel) → is_thrown outcome ≡ false
      → AfterPart table (labeled label exits) outcome events end
      → AfterPart table (protected label exits) outcome events end
  protected_part exits label safe (over {end = end} can) = over (by end safe)
    where
      by : (end : End) → is_thrown (Ended end) ≡ false → may_end false end ≡ true
      by Open safe = refl
      by (Returned place) safe = refl
      by (Thrown place) safe = absurd (let bad : ⊥ = cc in bad)
  protected_part {events} {end} {outcome} exits label safe (onward n run) =
      onward n (subst (λ n. FollowsAt table n events end) (sym (protected-leads exits label outcome)) run)

  -- a statement before others, which are left out
  before_part : {exits : Exits} {next : ℕ} {events : List Event} {end : End} {outcome : Completion}
      → leaves outcome ≡ true → AfterPart table exits outcome events end
      → AfterPart table (before next exits) outcome events end
  before_part l (over can) = over can
  before_part {exits} {next} {events} {end} {outcome} l (onward n run) =
      onward n (subst (λ n. FollowsAt table n events end) (sym (before-leads exits next outcome l)) run)

  -- a row, by where its run has come
  past_row : {exits : Exits} {events : List Event} {end : End} (progress : Progress)
      → AfterPart table exits (row_completion progress) events end
      → AfterValue table exits.normal exits.normal progress events end
  past_row Done (onward n run) = past run
  past_row Short (onward n run) = past_short run
  past_row Inside (over can) = stays
  past_row Inside (onward n run) = absurd (let bad : ⊥ = cc in bad)

  row_part : {exits : Exits} {events : List Event} {end : End} {outcome : Completion} (progress : Progress)
      → outcome ≡ row_completion progress → AfterPart table exits outcome events end
      → AfterValue table exits.normal exits.normal progress events end
  row_part {exits} {events} {end} progress e after =
      past_row progress (subst (λ o. AfterPart table exits o events end) e after)

  -- a jump
  jump_part : {exits : Exits} {events : List Event} {end : End} {outcome : Completion} (jump : Completion)
      → outcome ≡ jump → is_over jump ≡ false → AfterPart table exits outcome events end
      → FollowsAt table (exit exits jump) events end
  jump_part jump e n (over can) = absurd (let bad : ⊥ = (let same = ap is_over e in cc) in bad)
  jump_part {exits} {events} {end} jump e n (onward m run) =
      subst (λ o. FollowsAt table (exit exits o) events end) e run

module _ {table : Table} {env : Environment} where
  turn_followed : {before : Option Value} {test turn : ℕ} {events : List Event} {end : End}
      → LowersBefore table env before test turn → before ≡ None → FollowsAt table test events end
      → FollowsAt table turn events end
  turn_followed (nothing_before found) e run = enters found (passes run)
  turn_followed (some_before l found) e run = absurd (let bad : ⊥ = cc in bad)

  before_followed : {before : Option Value} {value : Value} {test turn : ℕ} {events later : List Event}
      {progress : Progress} {end : End} → LowersBefore table env before test turn → before ≡ Some value
      → RunsValue env false value events progress → AfterValue table test test progress later end
      → FollowsAt table turn (events ++ later) end
  before_followed (nothing_before found) e run after = absurd (let bad : ⊥ = cc in bad)
  before_followed {value = value} {events = events} {progress = progress} (some_before {value = other} l found) e run
      after =
      let same : other ≡ value = cc in
      enters found
      (passes (value_followed (subst (λ v. RunsValue env false v events progress) (sym same) run) l after))

  mutual
    pub list_followed : {exits : Exits} {statements : Statements} {events later : List Event} {outcome : Completion}
        {end : End} {start : ℕ} → RunsList env statements events outcome → has_throw events ≡ false
        → LowersList table env exits statements start → AfterPart table exits outcome later end
        → FollowsAt table start (events ++ later) end
    list_followed body.stopped no_throw l (over can) = arrives
    list_followed body.stopped no_throw l (onward n run) = absurd (let bad : ⊥ = cc in bad)
    list_followed body.nothing no_throw lower.no_statement (onward n run) = run
    list_followed {later = later} (body.and_then {first = a} {second = b} x (body.goes_on y) q) no_throw
        (lower.one_statement l m) after =
        joined a b later q
        (statement_followed x (no_throw_front a b q no_throw) m
        (onward refl (list_followed y (no_throw_behind a b q no_throw) l after)))
    list_followed {later = later} (body.and_then {first = a} x (body.leaves_list h) q) no_throw
        (lower.one_statement l m) after =
        joined a [] later q
        (statement_followed x (no_throw_front a [] q no_throw) m (before_part h after))

    statement_followed : {exits : Exits} {statement : Statement} {events later : List Event} {outcome : Completion}
        {end : End} {start : ℕ} → RunsStatement env statement events outcome → has_throw events ≡ false
        → LowersStatement table env exits statement start
        → AfterPart table exits outcome later end → FollowsAt table start (events ++ later) end
    statement_followed (body.row {progress = progress} x o) no_throw (lower.row l) after =
        row_followed x l (row_part progress o after)
    statement_followed body.returned no_throw (lower.returns found) (over can) = enters found ends
    statement_followed body.returned no_throw l (onward n run) = absurd (let bad : ⊥ = cc in bad)
    statement_followed (body.thrown {value = value}) no_throw (lower.throws found) (over can) =
        enters (found ∙ ap (λ t. Some (thrown_position t value)) can) ends
    statement_followed body.thrown no_throw l (onward n run) = absurd (let bad : ⊥ = cc in bad)
    statement_followed body.break_implicit no_throw lower.breaks after = jump_part Normal refl refl after
    statement_followed (body.break_labeled {target = target} {label = label} o) no_throw lower.breaks after =
        jump_part (caught label (BreakTo target)) o ((caught-catches label).alike (BreakTo target)) after
    statement_followed body.break_unlabeled no_throw lower.breaks after = jump_part BreakInnermost refl refl after
    statement_followed body.continue_implicit no_throw lower.continues after = jump_part Normal refl refl after
    statement_followed (body.continue_labeled {target = target}) no_throw lower.continues after =
        jump_part (ContinueTo target) refl refl after
    statement_followed body.continue_unlabeled no_throw lower.continues after = jump_part ContinueLoop refl refl after
    statement_followed (body.took_arm {label = label} x q) no_throw (lower.tests l m found) after =
        enters found (test_holds (list_followed x no_throw l (labeled_part label q after)))
    statement_followed (body.took_other {label = label} x q) no_throw (lower.tests l m found) after =
        enters found (test_fails (alternate_followed x no_throw m (labeled_part label q after)))
    statement_followed {exits} (body.in_case {cases = cases} {label = label} {inner = inner} x q) no_throw
        (lower.switches l found) after =
        let way = chosen_followed x no_throw l (inside_part (caught_unlabeled-catches label) refl
        inner (in_switch-leads exits label inner) q after) in
        enters found (chooses (kept_choice (has_default cases) exits.normal way.1) way.2)
    statement_followed {exits} (body.past_cases {cases = cases} none) no_throw
        (lower.switches {choices = choices} l found) (onward n run) =
        enters (found ∙ ap (λ d. Some (Chooses (all_choices d exits.normal choices))) none)
        (chooses (last_choice choices) run)
    statement_followed (body.in_while x) no_throw (lower.while_loop l) after = loop_followed x no_throw l after
    statement_followed (body.in_do_while x) no_throw (lower.do_while_loop l) after =
        loop_followed x no_throw l after
    statement_followed (body.in_init v) no_throw (lower.for_loop l m) (over can) =
        value_followed v m stays
    statement_followed (body.in_init v) no_throw l (onward n run) = absurd (let bad : ⊥ = cc in bad)
    statement_followed {later = later} (body.past_init {first = a} {second = b} {progress = p} v h x q) no_throw
        (lower.for_loop l m) after =
        joined a b later q
        (value_followed v m
        (past_either p h (loop_followed x (no_throw_behind a b q no_throw) l after)))
    statement_followed (body.in_for_of x) no_throw (lower.for_of_loop l) after = loop_followed x no_throw l after
    statement_followed (body.in_for_in x) no_throw (lower.for_in_loop l) after = loop_followed x no_throw l after
    statement_followed (body.in_label {label = label} x q) no_throw (lower.label_statement l) after =
        list_followed x no_throw l (labeled_part label q after)
    statement_followed {exits} (body.in_try {label = label} x safe q) no_throw (lower.try_statement l) after =
        list_followed x no_throw l (protected_part exits label safe (labeled_part label q after))
    statement_followed (body.in_handler {first = a} {second = b} x reach y o q) no_throw l after =
        let thrown : true ≡ false = no_throw_behind a (Threw ∷ b) q no_throw in absurd (let bad : ⊥ = cc in bad)
    statement_followed (body.in_scope x) no_throw (lower.scope_statement l) after = list_followed x no_throw l after
    statement_followed (body.in_pruned_scope x) no_throw (lower.pruned_scope_statement l) after =
        list_followed x no_throw l after

    alternate_followed : {exits : Exits} {alternate : Alternate} {events later : List Event} {outcome : Completion}
        {end : End} {start : ℕ} → RunsAlternate env alternate events outcome → has_throw events ≡ false
        → LowersAlternate table env exits alternate start
        → AfterPart table exits outcome later end → FollowsAt table start (events ++ later) end
    alternate_followed body.absent no_throw lower.absent (onward n run) = run
    alternate_followed (body.present x) no_throw (lower.present l) after = list_followed x no_throw l after

    -- the cases from the first one on
    cases_followed : {exits : Exits} {cases : Cases} {events later : List Event} {outcome : Completion} {end : End}
        {start : ℕ} {choices : List Choice} → RunsCases env cases events outcome → has_throw events ≡ false
        → LowersCases table env exits cases start choices
        → AfterPart table exits outcome later end → FollowsAt table start (events ++ later) end
    cases_followed body.no_more_cases no_throw lower.no_cases (onward n run) = run
    cases_followed {later = later} (body.falls_into {first = a} {second = b} x y q) no_throw (lower.one_case l m)
        after =
        joined a b later q
        (alternate_followed x (no_throw_front a b q no_throw) m
        (onward refl (cases_followed y (no_throw_behind a b q no_throw) l after)))
    cases_followed (body.leaves_case x h) no_throw (lower.one_case l m) after =
        alternate_followed x no_throw m (before_part h after)

    chosen_followed : {exits : Exits} {cases : Cases} {chosen : Option Place} {events later : List Event}
        {outcome : Completion} {end : End} {start : ℕ} {choices : List Choice}
        → RunsChosen env chosen cases events outcome → has_throw events ≡ false
        → LowersCases table env exits cases start choices
        → AfterPart table exits outcome later end
        → (next : ℕ) × (IsChoice choices chosen next) × (FollowsAt table next (events ++ later) end)
    chosen_followed (body.chosen_here x) no_throw (lower.one_case {start = start} {choices = choices} l m) after =
        (start, last_choice choices, cases_followed x no_throw (lower.one_case l m) after)
    chosen_followed (body.chosen_later x) no_throw (lower.one_case {test = test} {start = start} l m) after =
        let way = chosen_followed x no_throw l after in (way.0, front_choice ((test, start) ∷ []) way.1, way.2)

    loop_followed : {exits : Exits} {label : Option ReactiveLabel} {parts : LoopParts} {spot : Spot}
        {events later : List Event} {outcome : Completion} {end : End} {turn test start : ℕ}
        → RunsLoop env label parts spot events outcome → has_throw events ≡ false
        → LowersLoop table env exits label parts turn test start
        → AfterPart table exits outcome later end → FollowsAt table (spot_at spot turn test start) (events ++ later) end
    loop_followed (body.nothing_before e x) no_throw (lower.loop b t found l) after =
        turn_followed b e (loop_followed x no_throw (lower.loop b t found l) after)
    loop_followed (body.in_before e v) no_throw (lower.loop b t found l) (over can) =
        before_followed b e v stays
    loop_followed (body.in_before e v) no_throw l (onward n run) = absurd (let bad : ⊥ = cc in bad)
    loop_followed {later = later} (body.past_before {first = a} {second = c} {progress = p} e v h x q) no_throw
        (lower.loop b t found l) after =
        joined a c later q
        (before_followed b e v (past_either p h
        (loop_followed x (no_throw_behind a c q no_throw) (lower.loop b t found l) after)))
    loop_followed (body.in_test v) no_throw (lower.loop b t found l) (over can) =
        value_followed v t stays
    loop_followed (body.in_test v) no_throw l (onward n run) = absurd (let bad : ⊥ = cc in bad)
    loop_followed {later = later} (body.test_fails {first = a} {progress = p} v h q) no_throw (lower.loop b t found l)
        (onward n run) =
        joined a (Arm false ∷ []) later q
        (value_followed v t
        (past_either p h (enters found (test_fails run))))
    loop_followed {later = later} (body.test_holds {first = a} {second = c} {progress = p} v h x q) no_throw
        (lower.loop b t found l) after =
        joined a (Arm true ∷ c) later q
        (value_followed v t (past_either p h (enters found (test_holds
        (loop_followed x (no_throw_behind a (Arm true ∷ c) q no_throw) (lower.loop b t found l) after)))))
    loop_followed {exits} {label} {later = later} {end = end} {turn = turn}
        (body.next_turn {first = a} {second = c} {inner = inner} x again y q) no_throw (lower.loop b t found l)
        after =
        joined a c later q
        (list_followed x (no_throw_front a c q no_throw) l
        (onward (turns-go_on label inner again)
        (subst (λ n. FollowsAt table n (c ++ later) end) (sym (turn_leads exits label turn inner again))
        (loop_followed y (no_throw_behind a c q no_throw) (lower.loop b t found l) after))))
    loop_followed {exits} {label} {turn = turn} (body.leaves_loop {inner = inner} x left q) no_throw
        (lower.loop b t found l) after =
        list_followed x no_throw l
        (inside_part (caught_unlabeled-catches label) refl inner (out_leads exits label turn inner left) q after)
