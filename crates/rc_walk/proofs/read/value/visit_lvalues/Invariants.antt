use Rattle.std.proofs.Common.{◌≡◌, drop}
use Rattle.rc_tree.specs.Step.{each}
use Rattle.rc_walk.proofs.read.value.visit_lvalues.Given as goal

abbrev pub invariant-loop-place : goal.invariant-loop-place
invariant-loop-place g l =
    let step = (g.V.ReactiveFunctionVisitor.steps l.visitor).visit_lvalue l.id in
    let view = g.V.ReactiveFunctionVisitor.view l.visitor in
    each step l.place-items (view l.initial.state) ≡ each step (drop l.place-index l.place-items) (view l.state)
