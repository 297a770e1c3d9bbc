-- The runs of a body are those from its first position on.
use Rattle.std.proofs.Common.{◌≡◌, ℕ, true, false, List, [], ◌++◌, Some, refl, sym, ap, ◌∙◌, subst, ◌↔◌}
use Rattle.std.proofs.lemmas.List.{append-nil}
use Rattle.rc_hir.specs.Model.{Environment}
use Rattle.rc_tree.specs.Model.{ReactiveFunction}
use Rattle.rc_runs.specs.Event.{Event, has_throw, End, Open, Returned, Thrown}
use Rattle.rc_runs.specs.PlainTree.{Statements}
use Rattle.rc_runs.specs.TreeOf.{block_of}
use Rattle.rc_runs.specs.Returning.{returning}
use Rattle.rc_runs.specs.Completion.{Completion, Normal, BreakTo, BreakInnermost, ContinueTo, ContinueLoop, Ended}
use Rattle.rc_runs.specs.BodyRun.{RunsList, IsBodyRun}
use Rattle.rc_runs.proofs.TreeOfLemmas.{block_of-injective}
use Rattle.rc_replay.specs.inside.Positions.{Stops, Table, Follows, FollowsAt, rests}
use Rattle.rc_replay.specs.inside.Exits.{exit, may_end, nowhere, outermost}
use Rattle.rc_replay.specs.inside.Lowered.{LowersList}
use Rattle.rc_replay.proofs.FollowsSize.{entered, from_equal}
use Rattle.rc_replay.proofs.BodyToPositions.{over, list_followed}
use Rattle.rc_replay.proofs.BodyStops.{list_stops}
use Rattle.rc_replay.proofs.PartLeads.{Leads, ends_here, leads}
use Rattle.rc_replay.proofs.PositionsToBody.{list_led}

-- outside all statements, each completion leads nowhere
outermost-leads : (outcome : Completion) → exit outermost outcome ≡ nowhere
outermost-leads Normal = refl
outermost-leads (BreakTo target) = refl
outermost-leads BreakInnermost = refl
outermost-leads (ContinueTo target) = refl
outermost-leads ContinueLoop = refl
outermost-leads (Ended end) = refl

any_end : (end : End) → may_end true end ≡ true
any_end Open = refl
any_end (Returned place) = refl
any_end (Thrown place) = refl

module _ {table : Table} {env : Environment} {statements : Statements} {start : ℕ} (stops : table nowhere ≡ Some Stops)
    (lowered : LowersList table env outermost statements start) where
  -- each run without a throw is one from the first position on
  pub followed : {events : List Event} {end : End} → has_throw events ≡ false
      → RunsList env statements events (Ended end) → FollowsAt table start events end
  followed {events} {end} no_throw run =
      subst (λ v. FollowsAt table start v end) (append-nil events)
      (list_followed run no_throw lowered (over (any_end end)))

  -- nothing follows the statements
  last : {front back events : List Event} {outcome : Completion} {end : End} → RunsList env statements front outcome
      → Follows table Stops back end → events ≡ front ++ back → RunsList env statements events (Ended end)
  last {front = front} here rests e =
      subst (λ v. RunsList env statements v (Ended Open)) (sym (e ∙ append-nil front)) (list_stops here)

  -- each run from the first position on is one of the statements
  pub runs_from : {events : List Event} {end : End} → FollowsAt table start events end
      → RunsList env statements events (Ended end)
  runs_from {events} {end} run = by (list_led lowered run)
    where
      by : {bound : ℕ} → Leads table outermost bound (RunsList env statements) events end
          → RunsList env statements events (Ended end)
      by (ends_here here can) = here
      by (leads {outcome = outcome} here n run small e) =
          let to = from_equal (outermost-leads outcome) run small in
          let at = entered stops to.0 to.1 in last here at.0 e

-- the runs of a function's body that have no throw
pub body_runs : {table : Table} {env : Environment} {func : ReactiveFunction} {start : ℕ} {events : List Event}
    {end : End} (statements : Statements) → func.body ≡ block_of statements → table nowhere ≡ Some Stops
    → LowersList table env outermost (returning env statements) start → has_throw events ≡ false
    → FollowsAt table start events end ↔ IsBodyRun func env events end
body_runs {table} {env} {func} {start} {events} {end} statements body stops lowered no_throw = (
  λ run. record { statements = statements; body = body; run = runs_from stops lowered run },
  λ run. let same : run.statements ≡ statements = block_of-injective run.statements statements (sym run.body ∙ body) in
      followed stops lowered no_throw
      (subst (λ s. RunsList env (returning env s) events (Ended end)) same run.run),
)
