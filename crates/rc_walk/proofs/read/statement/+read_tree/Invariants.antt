use Rattle.std.proofs.Common.{◌≡◌, drop}
use Rattle.rc_tree.specs.Step.{each}
use Rattle.rc_tree.specs.Read.{inside_block, read_case, read_statement}
use Rattle.rc_walk.proofs.read.statement.+read_tree.Given as goal

abbrev pub invariant-traverse_block-loop-statement : goal.invariant-traverse_block-loop-statement
invariant-traverse_block-loop-statement g l =
    let steps = g.V.ReactiveFunctionVisitor.steps l.visitor in
    let functions = g.V.ReactiveFunctionVisitor.functions l.visitor in
    let view = g.V.ReactiveFunctionVisitor.view l.visitor in
    inside_block steps functions l.block (view l.initial.state) ≡ each (read_statement steps functions)
    (drop l.statement-index l.statement-items) (view l.state)

abbrev pub invariant-walk_cases-loop-case : goal.invariant-walk_cases-loop-case
invariant-walk_cases-loop-case g l =
    let step = λ (c : _). read_case (g.V.ReactiveFunctionVisitor.steps l.visitor)
    (g.V.ReactiveFunctionVisitor.functions l.visitor) c l.id in
    let view = g.V.ReactiveFunctionVisitor.view l.visitor in
    each step l.case-items (view l.initial.state) ≡ each step (drop l.case-index l.case-items) (view l.state)
