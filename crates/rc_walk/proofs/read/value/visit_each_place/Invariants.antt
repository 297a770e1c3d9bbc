use Rattle.std.proofs.Common.{◌≡◌, drop}
use Rattle.rc_tree.specs.Step.{each}
use Rattle.rc_walk.proofs.read.value.visit_each_place.Given as goal

abbrev pub invariant-loop-place : goal.invariant-loop-place
invariant-loop-place g l =
    let step = (g.V.ReactiveFunctionVisitor.steps l.visitor).visit_place l.id in
    let view = g.V.ReactiveFunctionVisitor.view l.visitor in
    each step l.places (view l.initial.state) ≡ each step (drop l.place-index l.places) (view l.state)
