use Rattle.std.proofs.Common.{◌≡◌, drop}
use Rattle.rc_tree.specs.Step.{each}
use Rattle.rc_tree.specs.Read.Values.{read_instruction}
use Rattle.rc_walk.proofs.read.value.+read_value.Given as goal

abbrev pub invariant-walk_rows-loop-row : goal.invariant-walk_rows-loop-row
invariant-walk_rows-loop-row g l =
    let step = read_instruction (g.V.ReactiveFunctionVisitor.steps l.visitor)
    (g.V.ReactiveFunctionVisitor.functions l.visitor) in
    let view = g.V.ReactiveFunctionVisitor.view l.visitor in
    each step l.row-items (view l.initial.state) ≡ each step (drop l.row-index l.row-items) (view l.state)
