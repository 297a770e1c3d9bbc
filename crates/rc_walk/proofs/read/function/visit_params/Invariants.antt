use Rattle.std.proofs.Common.{◌≡◌, drop}
use Rattle.rc_tree.specs.Step.{each}
use Rattle.rc_tree.specs.ReadFunction.{param_place}
use Rattle.rc_walk.proofs.read.function.visit_params.Given as goal

abbrev pub invariant-loop-param : goal.invariant-loop-param
invariant-loop-param g l =
    let step = λ (p : _). (g.V.ReactiveFunctionVisitor.steps l.visitor).visit_param (param_place p) in
    let view = g.V.ReactiveFunctionVisitor.view l.visitor in
    each step l.param-items (view l.initial.state) ≡ each step (drop l.param-index l.param-items) (view l.state)
