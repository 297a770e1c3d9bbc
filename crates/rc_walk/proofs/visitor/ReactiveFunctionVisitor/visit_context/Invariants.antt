use Rattle.std.proofs.Common.{◌≡◌, drop}
use Rattle.rc_tree.specs.Step.{each}
use Rattle.rc_walk.proofs.visitor.ReactiveFunctionVisitor.visit_context.Given as goal

abbrev pub invariant-loop-place : goal.invariant-loop-place
invariant-loop-place g l =
    let step = (g.Self.ReactiveFunctionVisitor.steps l.self).visit_place l.id in
    let view = g.Self.ReactiveFunctionVisitor.view l.self in
    each step l.places (view l.initial.state) ≡ each step (drop l.place-index l.places) (view l.state)
