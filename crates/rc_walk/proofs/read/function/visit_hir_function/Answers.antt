use Rattle.std.proofs.Common.{rules}
use Rattle.rc_tree.proofs.NestedLemmas.{no_cycle_given, cycle_given}
use Rattle.rc_tree.specs.Step.{IsStep}
use Rattle.rc_tree.specs.ReadFunction.{read_function}
use Rattle.rc_walk.proofs.read.function.visit_hir_function.Goals as goal

-- the walk succeeds only if there is no cycle
pub returns-clause-no_cycle : goal.returns-clause-no_cycle
returns-clause-no_cycle g c =
    let steps = g.V.ReactiveFunctionVisitor.steps c.args.visitor.now in
    let functions = g.V.ReactiveFunctionVisitor.functions c.args.visitor.now in
    let view = g.V.ReactiveFunctionVisitor.view c.args.visitor.now in
    let given : IsStep (read_function steps functions c.args.func (view c.args.state.now)) c.walk_function.result
    (view c.walk_function.new.state) = search rules in
    no_cycle_given steps functions c.args.func (view c.args.state.now) (view c.walk_function.new.state)
    c.walk_function.result given

-- it finds a cycle only if there is one, or if a hook returns that fault
pub returns-clause-cycle : goal.returns-clause-cycle
returns-clause-cycle g c =
    let steps = g.V.ReactiveFunctionVisitor.steps c.args.visitor.now in
    let functions = g.V.ReactiveFunctionVisitor.functions c.args.visitor.now in
    let view = g.V.ReactiveFunctionVisitor.view c.args.visitor.now in
    let given : IsStep (read_function steps functions c.args.func (view c.args.state.now)) c.walk_function.result
    (view c.walk_function.new.state) = search rules in
    cycle_given steps functions c.args.func (view c.args.state.now) (view c.walk_function.new.state)
    c.walk_function.result given
