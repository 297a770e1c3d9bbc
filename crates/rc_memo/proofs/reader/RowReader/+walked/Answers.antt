use Rattle.rc_memo.proofs.RowEventsLemmas.{as_walked, walks-Conditional, walks-Logical, walks-Optional, walks-Sequence}
use Rattle.rc_memo.proofs.reader.RowReader.+walked.Goals as goal

pub returns-in_ok-add_walked-in-LogicalExpression-2 : goal.returns-in_ok-add_walked-in-LogicalExpression-2
returns-in_ok-add_walked-in-LogicalExpression-2 t c =
    let env = c.args.self.now.env.now in
    let form = c.in-LogicalExpression in
    walks-Logical env c.args.value.now form.operator form.left form.right c.args.recording.now c.add_walked.new.recording
    c.add_walked-in-LogicalExpression.new.recording form.is
    (as_walked env c.get.ensures c.in_ok-add_walked-in-LogicalExpression.ensures)
    (as_walked env c.get-in-LogicalExpression.ensures c.in_ok-add_walked-in-LogicalExpression-2.ensures)

pub returns-in_ok-add_walked-in-ConditionalExpression-3 : goal.returns-in_ok-add_walked-in-ConditionalExpression-3
returns-in_ok-add_walked-in-ConditionalExpression-3 t c =
    let env = c.args.self.now.env.now in
    let form = c.in-ConditionalExpression in
    walks-Conditional env c.args.value.now form.test form.consequent form.alternate c.args.recording.now
    c.add_walked-in-ConditionalExpression.new.recording c.add_walked-in-ConditionalExpression-2.new.recording
    c.add_walked-in-ConditionalExpression-3.new.recording form.is
    (as_walked env c.get-in-ConditionalExpression.ensures c.in_ok-add_walked-in-ConditionalExpression.ensures)
    (as_walked env c.get-in-ConditionalExpression-2.ensures c.in_ok-add_walked-in-ConditionalExpression-2.ensures)
    (as_walked env c.get-in-ConditionalExpression-3.ensures c.in_ok-add_walked-in-ConditionalExpression-3.ensures)

pub returns-in_ok-add_walked-in-SequenceExpression : goal.returns-in_ok-add_walked-in-SequenceExpression
returns-in_ok-add_walked-in-SequenceExpression t c =
    let env = c.args.self.now.env.now in
    let form = c.in-SequenceExpression in
    walks-Sequence env c.args.value.now form.instructions form.id form.value c.args.recording.now c.add_rows.new.recording
    c.add_walked-in-SequenceExpression.new.recording form.is c.in_ok-add_rows-in-SequenceExpression.ensures
    (as_walked env c.get-in-SequenceExpression.ensures c.in_ok-add_walked-in-SequenceExpression.ensures)

pub returns-in_ok-add_walked-in-OptionalExpression : goal.returns-in_ok-add_walked-in-OptionalExpression
returns-in_ok-add_walked-in-OptionalExpression t c =
    let env = c.args.self.now.env.now in
    let form = c.in-OptionalExpression in
    walks-Optional env c.args.value.now form.value form.optional c.args.recording.now
    c.add_walked-in-OptionalExpression.new.recording form.is
    (as_walked env c.get-in-OptionalExpression.ensures c.in_ok-add_walked-in-OptionalExpression.ensures)
