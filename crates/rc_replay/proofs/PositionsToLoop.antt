-- A run from a place in a loop on is a run of the loop, or leads out of it.
use Rattle.std.proofs.Common.{◌≡◌, ℕ, suc, ◌<◌, Bool, true, false, List, [], ◌∷◌, ◌++◌, Option, None, Some, refl, sym, ap}
use Rattle.std.proofs.Common.{◌∙◌, subst, append_assoc, arith}
use Rattle.rc_hir.specs.Model.{Environment}
use Rattle.rc_tree.specs.Model.{ReactiveLabel}
use Rattle.rc_runs.specs.Event.{Event, Arm, End, Open}
use Rattle.rc_runs.specs.PlainTree.{Value}
use Rattle.rc_runs.specs.LoopParts.{LoopParts}
use Rattle.rc_runs.specs.ValueRun.{Progress, goes_past, RunsValue, value_stopped}
use Rattle.rc_runs.specs.Completion.{Completion, Ended, turns_again}
use Rattle.rc_runs.specs.BodyRun.{Spot, AtTurn, AtTest, AtBody, RunsList, RunsLoop, nothing_before, in_before}
use Rattle.rc_runs.specs.BodyRun.{past_before, in_test, test_fails, test_holds, next_turn, leaves_loop}
use Rattle.rc_runs.proofs.FramesLemmas.{caught-ended}
use Rattle.rc_replay.specs.inside.Positions.{Passes, Table, Follows, FollowsAt, rests, passes as goes_on}
use Rattle.rc_replay.specs.inside.Exits.{Exits, is_over, exit, in_loop}
use Rattle.rc_replay.specs.inside.LoweredValue.{LowersValue}
use Rattle.rc_replay.specs.inside.Lowered.{LowersBefore, LowersLoop}
use Rattle.rc_replay.specs.inside.Lowered as lower
use Rattle.rc_replay.proofs.FollowsSize.{size, size_at, entered, from_equal}
use Rattle.rc_replay.proofs.ExitsLemmas.{caught_unlabeled-over, turn_leads, out_leads}
use Rattle.rc_replay.proofs.PositionsToValue.{Crosses, stays, passes, shortens, Decides, stays_in_test, decides_true}
use Rattle.rc_replay.proofs.PositionsToValue.{decides_false, decided, value_crossed}
use Rattle.rc_replay.proofs.PartLeads.{Leads, ends_here, leads, Led, Below, lead_events, lead_after}

module _ {table : Table} {env : Environment} {bound : ℕ} {exits : Exits} {label : Option ReactiveLabel}
    {parts : LoopParts} where
  -- from the body on
  pub body_led : {turn test body : ℕ} → Below table env bound → LowersLoop table env exits label parts turn test body
      → Led table (in_loop label turn exits) body bound (RunsList env parts.body)
      → Led table exits body bound (RunsLoop env label parts AtBody)
  body_led {turn} below lowered inner events end run small = go (inner _ _ run small)
    where
      out : {front back : List Event} {outcome : Completion} (again : Bool) → turns_again label outcome ≡ again
          → RunsList env parts.body front outcome → is_over outcome ≡ false
          → (run : FollowsAt table (exit (in_loop label turn exits) outcome) back end) → size_at run < bound
          → events ≡ front ++ back → Leads table exits bound (RunsLoop env label parts AtBody) events end
      out {front = front} {outcome = outcome} true again here n run small e =
          let to = from_equal (turn_leads exits label turn outcome again) run small in
          lead_events e (lead_after front (λ events outcome after. next_turn here again after refl)
          (below.turn lowered _ _ to.0 to.1))
      out {outcome = outcome} false left here n run small e =
          let to = from_equal (out_leads exits label turn outcome left) run small in
          leads (leaves_loop here left refl) (caught_unlabeled-over label outcome ∙ n) to.0 to.1 e

      go : Leads table (in_loop label turn exits) bound (RunsList env parts.body) events end
          → Leads table exits bound (RunsLoop env label parts AtBody) events end
      go (ends_here here can) = ends_here (leaves_loop here refl (sym (caught-ended label end))) can
      go (leads {outcome = outcome} here n run small e) = out (turns_again label outcome) refl here n run small e

  -- from the test on
  test_leads : {holds : ℕ} {events : List Event} {end : End}
      → Led table exits holds bound (RunsLoop env label parts AtBody)
      → Decides table env parts.test holds exits.normal bound events end → Leads table exits bound (RunsLoop env label parts AtTest) events end
  test_leads {events = events} inner (stays_in_test here e) =
      subst (λ z. Leads table exits bound (RunsLoop env label parts AtTest) events z) (sym e) (ends_here (in_test here) refl)
  test_leads inner (decides_false {front = front} {back} here past run small e) =
      leads (test_fails here past refl) refl run small (e ∙ sym (append_assoc front (Arm false ∷ []) back))
  test_leads inner (decides_true {front = front} {back} here past run small e) =
      lead_events (e ∙ sym (append_assoc front (Arm true ∷ []) back))
      (lead_after (front ++ Arm true ∷ []) (λ events outcome after.
      test_holds here past after (append_assoc front (Arm true ∷ []) events)) (inner _ _ run small))

  -- from the start of a turn on, where nothing comes before the test
  nothing_leads : {test : ℕ} {events : List Event} {end : End} → parts.before ≡ None
      → Led table exits test bound (RunsLoop env label parts AtTest)
      → (run : Follows table (Passes test) events end) → size run < suc bound → Leads table exits bound (RunsLoop env label parts AtTurn) events end
  unfolding size
  nothing_leads e tested rests small = ends_here (nothing_before e (in_test value_stopped)) refl
  nothing_leads e tested (goes_on run) small =
      lead_after [] (λ events outcome after. nothing_before e after) (tested _ _ run (omega arith))

  -- past the value before the test
  past_value : {value : Value} {test : ℕ} {events : List Event} {end : End} → parts.before ≡ Some value
      → Led table exits test bound (RunsLoop env label parts AtTest)
      → Crosses table test test bound (RunsValue env false value) events end → Leads table exits bound (RunsLoop env label parts AtTurn) events end
  past_value {events = events} e tested (stays here q) =
      subst (λ z. Leads table exits bound (RunsLoop env label parts AtTurn) events z) (sym q) (ends_here (in_before e here) refl)
  past_value e tested (passes {front = front} here run small q) =
      lead_events q
      (lead_after front (λ events outcome after. past_before e here refl after refl) (tested _ _ run small))
  past_value e tested (shortens {front = front} here run small q) =
      lead_events q
      (lead_after front (λ events outcome after. past_before e here refl after refl) (tested _ _ run small))

  some_leads : {value : Value} {test start : ℕ} {events : List Event} {end : End} → parts.before ≡ Some value
      → LowersValue table env false value test test start → Led table exits test bound (RunsLoop env label parts AtTest)
      → (run : Follows table (Passes start) events end) → size run < suc bound → Leads table exits bound (RunsLoop env label parts AtTurn) events end
  unfolding size
  some_leads e l tested rests small = ends_here (in_before e value_stopped) refl
  some_leads e l tested (goes_on run) small = past_value e tested (value_crossed l _ _ run (omega arith))

  before_leads : {before : Option Value} {test turn : ℕ} {events : List Event} {end : End}
      → LowersBefore table env before test turn → parts.before ≡ before
      → Led table exits test bound (RunsLoop env label parts AtTest)
      → (run : FollowsAt table turn events end) → size_at run < suc bound → Leads table exits bound (RunsLoop env label parts AtTurn) events end
  before_leads (lower.nothing_before found) e tested run small =
      let at = entered found run small in nothing_leads e tested at.0 at.1
  before_leads (lower.some_before l found) e tested run small =
      let at = entered found run small in some_leads e l tested at.0 at.1

  -- from the test on, where each run of the body is one of its list
  pub test_led : {turn test body : ℕ} → Below table env bound → LowersLoop table env exits label parts turn test body
      → Led table (in_loop label turn exits) body bound (RunsList env parts.body)
      → Led table exits test bound (RunsLoop env label parts AtTest)
  test_led below (lower.loop b t found l) inner events end run small =
      test_leads (body_led below (lower.loop b t found l) inner) (decided found (value_crossed t _ _ run small))

  -- from the start of a turn on
  pub turn_led : {turn test body : ℕ} {events : List Event} {end : End} → Below table env bound
      → LowersLoop table env exits label parts turn test body
      → Led table (in_loop label turn exits) body bound (RunsList env parts.body)
      → (run : FollowsAt table turn events end) → size_at run < suc bound → Leads table exits bound (RunsLoop env label parts AtTurn) events end
  turn_led below (lower.loop b t found l) inner run small =
      before_leads b refl (test_led below (lower.loop b t found l) inner) run small
