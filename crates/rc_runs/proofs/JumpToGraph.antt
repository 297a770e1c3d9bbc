-- The runs of a jump's statements, and how the graph goes on after them.
use Rattle.std.proofs.Common.{◌≡◌, List, [], ◌++◌, ◌⊎◌, inl, inr, refl, sym, ap, ◌∙◌, subst}
use Rattle.std.proofs.lemmas.List.{append-nil}
use Rattle.rc_names.specs.Numbers.{BlockId}
use Rattle.rc_hir.specs.Model.{Terminal, HirFunction, Environment}
use Rattle.rc_runs.specs.Event.{Event, Open}
use Rattle.rc_runs.specs.Graph.{ends_unreachable}
use Rattle.rc_runs.specs.GraphRun.{Edge, HasNoUnreachableSuccessor, GraphRun}
use Rattle.rc_runs.specs.GraphRun as graph
use Rattle.rc_runs.specs.PlainTree.{Statements}
use Rattle.rc_runs.specs.ListContext.{ListContext}
use Rattle.rc_runs.specs.Completion.{Completion, Ended}
use Rattle.rc_runs.specs.BodyRun.{RunsList}
use Rattle.rc_runs.specs.BodyRun as body
use Rattle.rc_runs.proofs.SuccessorsLemmas.{fails_there}
use Rattle.rc_runs.proofs.FramesLemmas.{Aims}
use Rattle.rc_runs.proofs.JumpsLemmas.{Jumps, falls_off, breaks_implicit, breaks_labeled, breaks_unlabeled}
use Rattle.rc_runs.proofs.JumpsLemmas.{continues_implicit, continues_labeled, continues_unlabeled}
use Rattle.rc_runs.proofs.AfterParts.{After, ends, leads}

-- the runs of a jump's statements
jump_run : {env : Environment} {context : ListContext} {key : BlockId} {statements : Statements} {events : List Event}
    {outcome : Completion} → Jumps context key statements → RunsList env statements events outcome
    → (events ≡ []) × ((outcome ≡ Ended Open) ⊎ Aims context outcome key)
jump_run j body.stopped = (refl, inl refl)
jump_run (falls_off n) body.nothing = (refl, inr n)
jump_run (breaks_implicit n) (body.and_then body.break_implicit (body.goes_on body.stopped) q) = (q, inl refl)
jump_run (breaks_implicit n) (body.and_then body.break_implicit (body.goes_on body.nothing) q) = (q, inr n)
jump_run (breaks_implicit n) (body.and_then body.break_implicit (body.leaves_list l) q) =
    absurd (let bad : ⊥ = cc in bad)
jump_run (breaks_labeled e t) (body.and_then (body.break_labeled o) (body.goes_on x) q) =
    absurd (let bad : ⊥ = cc in bad)
jump_run {context} {key} (breaks_labeled e t) (body.and_then (body.break_labeled o) (body.leaves_list l) q) =
    (q, inr (subst (λ outcome. Aims context outcome key) (sym o) (e, t)))
jump_run (breaks_unlabeled n) (body.and_then body.break_unlabeled (body.leaves_list l) q) = (q, inr n)
jump_run (continues_implicit n) (body.and_then body.continue_implicit (body.goes_on body.stopped) q) = (q, inl refl)
jump_run (continues_implicit n) (body.and_then body.continue_implicit (body.goes_on body.nothing) q) = (q, inr n)
jump_run (continues_implicit n) (body.and_then body.continue_implicit (body.leaves_list l) q) =
    absurd (let bad : ⊥ = cc in bad)
jump_run (continues_labeled n) (body.and_then body.continue_labeled (body.leaves_list l) q) = (q, inr n)
jump_run (continues_unlabeled n) (body.and_then body.continue_unlabeled (body.leaves_list l) q) = (q, inr n)

-- a jump, after an edge to its target
pub jump_to_graph : {hir : HirFunction} {env : Environment} {terminal : Terminal} {step : List Event} {key : BlockId}
    {context : ListContext} {statements : Statements} {events : List Event} {outcome : Completion}
    → Edge terminal step key → HasNoUnreachableSuccessor hir terminal → Jumps context key statements
    → RunsList env statements events outcome
    → After hir env context (GraphRun hir env [] terminal) (step ++ events) outcome
jump_to_graph {hir} {env} {terminal} {step} {key} {context} {events = events} {outcome} move moves j run =
    let led = jump_run j run in
    let all : step ≡ step ++ events = sym (append-nil step) ∙ ap (λ l. step ++ l) (sym led.0) in
    subst (λ l. After hir env context (GraphRun hir env [] terminal) l outcome) all (elim led.1 [
      | inl q ↦ subst (After hir env context (GraphRun hir env [] terminal) step) (sym q)
          (ends (graph.moved move graph.arrives (sym (append-nil step))))
      | inr aim ↦ leads aim (fails_there (ends_unreachable hir) move moves) (λ more end r. graph.moved move r refl)
    ])
