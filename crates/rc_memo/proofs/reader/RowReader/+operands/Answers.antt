use Rattle.rc_memo.proofs.RowEventsLemmas.{as_places, places-Conditional, places-Instruction, places-Logical}
use Rattle.rc_memo.proofs.RowEventsLemmas.{places-Optional, places-Sequence}
use Rattle.rc_memo.proofs.reader.RowReader.+operands.Goals as goal

pub returns-in_ok-add_recorded-in-Instruction : goal.returns-in_ok-add_recorded-in-Instruction
returns-in_ok-add_recorded-in-Instruction t c =
    places-Instruction c.args.self.now.env.now c.args.value.now c.in-Instruction.value c.args.places.now
    c.add_recorded.new.places c.in-Instruction.is c.in_ok-add_recorded-in-Instruction.ensures

pub returns-in_ok-add_places-in-LogicalExpression-2 : goal.returns-in_ok-add_places-in-LogicalExpression-2
returns-in_ok-add_places-in-LogicalExpression-2 t c =
    let env = c.args.self.now.env.now in
    let form = c.in-LogicalExpression in
    places-Logical env c.args.value.now form.operator form.left form.right c.args.places.now
    c.add_places.new.places c.add_places-in-LogicalExpression.new.places form.is
    (as_places env c.get.ensures c.in_ok-add_places-in-LogicalExpression.ensures)
    (as_places env c.get-in-LogicalExpression.ensures c.in_ok-add_places-in-LogicalExpression-2.ensures)

pub returns-in_ok-add_places-in-ConditionalExpression-2 :
    goal.returns-in_ok-add_places-in-ConditionalExpression-2
returns-in_ok-add_places-in-ConditionalExpression-2 t c =
    let env = c.args.self.now.env.now in
    let form = c.in-ConditionalExpression in
    places-Conditional env c.args.value.now form.test form.consequent form.alternate c.args.places.now
    c.add_places-in-ConditionalExpression.new.places c.add_places-in-ConditionalExpression-2.new.places form.is
    (as_places env c.get-in-ConditionalExpression.ensures c.in_ok-add_places-in-ConditionalExpression.ensures)
    (as_places env c.get-in-ConditionalExpression-2.ensures c.in_ok-add_places-in-ConditionalExpression-2.ensures)

pub returns-in_ok-add_places-in-SequenceExpression : goal.returns-in_ok-add_places-in-SequenceExpression
returns-in_ok-add_places-in-SequenceExpression t c =
    let env = c.args.self.now.env.now in
    let form = c.in-SequenceExpression in
    places-Sequence env c.args.value.now form.instructions form.id form.value c.args.places.now
    c.add_places-in-SequenceExpression.new.places form.is
    (as_places env c.get-in-SequenceExpression.ensures c.in_ok-add_places-in-SequenceExpression.ensures)

pub returns-in_ok-add_places-in-OptionalExpression : goal.returns-in_ok-add_places-in-OptionalExpression
returns-in_ok-add_places-in-OptionalExpression t c =
    let env = c.args.self.now.env.now in
    let form = c.in-OptionalExpression in
    places-Optional env c.args.value.now form.value form.optional c.args.places.now
    c.add_places-in-OptionalExpression.new.places form.is
    (as_places env c.get-in-OptionalExpression.ensures c.in_ok-add_places-in-OptionalExpression.ensures)
