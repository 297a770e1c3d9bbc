use Rattle.std.proofs.lemmas.Result.{on_ok_weaker}
use Rattle.rc_tree.proofs.CollectedLemmas.{collected-row}
use Rattle.rc_flow.proofs.ListLemmas.{added}
use Rattle.rc_flow.proofs.ValuesLemmas.{added-Conditional, added-Logical, added-Sequence}
use Rattle.rc_flow.proofs.flows.PruneVisitor.+value_flows.Goals as goal
use Rattle.rc_flow.specs.Flows.Values.{row_flows}
use Rattle.rc_flow.specs.inside.PartFlows.{row_steps, steps_of_row, steps_of_value}

pub add_row-returns : goal.add_row-returns
add_row-returns t c =
    let env = c.args.self.now.env.now in
    let row = c.args.row.now in
    on_ok_weaker c.add_own.result
    (added c.args.steps.now c.add_value.new.steps c.add_own.new.steps (steps_of_value env row.id row.value)
    (row_steps env row.lvalue row.value) (steps_of_row env row) (c.in_ok-add_value.ensures row.id)
    (collected-row (row_flows env) row))
    c.add_own.ensures

pub add_value-returns-in_ok-add_value-in-LogicalExpression :
    goal.add_value-returns-in_ok-add_value-in-LogicalExpression
add_value-returns-in_ok-add_value-in-LogicalExpression t c =
    let arm = c.in-LogicalExpression in
    on_ok_weaker c.add_value-in-LogicalExpression.result
    (λ last id. added-Logical c.args.self.now.env.now id arm.operator arm.left arm.right c.get.result.now
    c.get-in-LogicalExpression.result.now c.args.value.now c.args.steps.now c.add_value.new.steps
    c.add_value-in-LogicalExpression.new.steps arm.is c.get.ensures c.get-in-LogicalExpression.ensures
    (c.in_ok-add_value-in-LogicalExpression.ensures id) (last id))
    c.add_value-in-LogicalExpression.ensures

pub add_value-returns-in_ok-add_value-in-ConditionalExpression-2 :
    goal.add_value-returns-in_ok-add_value-in-ConditionalExpression-2
add_value-returns-in_ok-add_value-in-ConditionalExpression-2 t c =
    let arm = c.in-ConditionalExpression in
    on_ok_weaker c.add_value-in-ConditionalExpression-3.result
    (λ last id. added-Conditional c.args.self.now.env.now id arm.test arm.consequent arm.alternate
    c.get-in-ConditionalExpression.result.now c.get-in-ConditionalExpression-2.result.now
    c.get-in-ConditionalExpression-3.result.now c.args.value.now
    c.args.steps.now c.add_value-in-ConditionalExpression.new.steps c.add_value-in-ConditionalExpression-2.new.steps
    c.add_value-in-ConditionalExpression-3.new.steps arm.is c.get-in-ConditionalExpression.ensures
    c.get-in-ConditionalExpression-2.ensures c.get-in-ConditionalExpression-3.ensures
    (c.in_ok-add_value-in-ConditionalExpression.ensures id)
    (c.in_ok-add_value-in-ConditionalExpression-2.ensures id) (last id))
    c.add_value-in-ConditionalExpression-3.ensures

pub add_value-returns-in_ok-add_rows-in-SequenceExpression :
    goal.add_value-returns-in_ok-add_rows-in-SequenceExpression
add_value-returns-in_ok-add_rows-in-SequenceExpression t c =
    let arm = c.in-SequenceExpression in
    on_ok_weaker c.add_value-in-SequenceExpression.result
    (λ last id. added-Sequence c.args.self.now.env.now id arm.instructions c.as_slice.result.now arm.id arm.value
    c.get-in-SequenceExpression.result.now c.args.value.now c.args.steps.now c.add_rows.new.steps
    c.add_value-in-SequenceExpression.new.steps arm.is c.as_slice.ensures c.get-in-SequenceExpression.ensures
    c.in_ok-add_rows-in-SequenceExpression.ensures (last arm.id))
    c.add_value-in-SequenceExpression.ensures
