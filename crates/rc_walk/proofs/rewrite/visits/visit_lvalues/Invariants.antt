use Rattle.std.proofs.Common.{◌≡◌, drop}
use Rattle.rc_tree.specs.Step.{each}
use Rattle.rc_walk.proofs.rewrite.visits.visit_lvalues.Given as goal

abbrev pub invariant-loop-place : goal.invariant-loop-place
invariant-loop-place g l =
    let step = g.T.ReactiveFunctionTransform.steps.visit_lvalue l.id in
    each step l.place-items (l.initial.transform, l.initial.state)
    ≡ each step (drop l.place-index l.place-items) (l.transform, l.state)
