use Rattle.rc_memo.proofs.StepsLemmas.{part_more}
use Rattle.rc_memo.proofs.TellsLemmas.{tells_next}
use Rattle.rc_memo.specs.RowEvents.{row_events}
use Rattle.rc_memo.specs.inside.Recording.{Tells}
use Rattle.rc_memo.proofs.RowEventsLemmas.{adds_row, as_inside, inside-Conditional, inside-Instruction, inside-Logical}
use Rattle.rc_memo.proofs.RowEventsLemmas.{inside-Optional, inside-Sequence}
use Rattle.rc_memo.proofs.reader.RowReader.+rows.Goals as goal

pub add_row-returns : goal.add_row-returns
add_row-returns t c =
    adds_row c.args.self.now.env.now c.args.row.now c.args.recording.now c.add_inside.new.recording c.add_own.new.recording
    c.in_ok-add_inside.ensures c.in_ok-add_own.ensures

pub add_rows-loop-row-preserved : goal.add_rows-loop-row-preserved
add_rows-loop-row-preserved t c =
    let env = c.args.self.now.env.now in
    part_more (Tells env) (tells_next env) (row_events env) c.as_slice-row-items.result.now c.loop-row.row-index c.row-item.result
    c.args.recording.now c.loop-row.recording c.add_row.new.recording c.loop-row-test.true c.loop-row.invariant
    (rw (← c.row-item.is) c.in_ok-add_row.ensures)

pub add_inside-returns-in-Instruction : goal.add_inside-returns-in-Instruction
add_inside-returns-in-Instruction t c =
    inside-Instruction c.args.self.now.env.now c.args.value.now c.in-Instruction.field-0 c.args.recording.now
    c.in-Instruction.is

pub add_inside-returns-in_ok-add_inside-in-LogicalExpression-2 :
    goal.add_inside-returns-in_ok-add_inside-in-LogicalExpression-2
add_inside-returns-in_ok-add_inside-in-LogicalExpression-2 t c =
    let env = c.args.self.now.env.now in
    let form = c.in-LogicalExpression in
    inside-Logical env c.args.value.now form.operator form.left form.right c.args.recording.now c.add_inside.new.recording
    c.add_inside-in-LogicalExpression.new.recording form.is
    (as_inside env c.get.ensures c.in_ok-add_inside-in-LogicalExpression.ensures)
    (as_inside env c.get-in-LogicalExpression.ensures c.in_ok-add_inside-in-LogicalExpression-2.ensures)

pub add_inside-returns-in_ok-add_inside-in-ConditionalExpression-2 :
    goal.add_inside-returns-in_ok-add_inside-in-ConditionalExpression-2
add_inside-returns-in_ok-add_inside-in-ConditionalExpression-2 t c =
    let env = c.args.self.now.env.now in
    let form = c.in-ConditionalExpression in
    inside-Conditional env c.args.value.now form.test form.consequent form.alternate c.args.recording.now
    c.add_inside-in-ConditionalExpression.new.recording c.add_inside-in-ConditionalExpression-2.new.recording form.is
    (as_inside env c.get-in-ConditionalExpression.ensures c.in_ok-add_inside-in-ConditionalExpression.ensures)
    (as_inside env c.get-in-ConditionalExpression-2.ensures c.in_ok-add_inside-in-ConditionalExpression-2.ensures)

pub add_inside-returns-in_ok-add_inside-in-SequenceExpression :
    goal.add_inside-returns-in_ok-add_inside-in-SequenceExpression
add_inside-returns-in_ok-add_inside-in-SequenceExpression t c =
    let env = c.args.self.now.env.now in
    let form = c.in-SequenceExpression in
    inside-Sequence env c.args.value.now form.instructions form.id form.value c.args.recording.now c.add_rows.new.recording
    c.add_inside-in-SequenceExpression.new.recording form.is c.in_ok-add_rows-in-SequenceExpression.ensures
    (as_inside env c.get-in-SequenceExpression.ensures c.in_ok-add_inside-in-SequenceExpression.ensures)

pub add_inside-returns-in_ok-add_inside-in-OptionalExpression :
    goal.add_inside-returns-in_ok-add_inside-in-OptionalExpression
add_inside-returns-in_ok-add_inside-in-OptionalExpression t c =
    let env = c.args.self.now.env.now in
    let form = c.in-OptionalExpression in
    inside-Optional env c.args.value.now form.value form.optional c.args.recording.now
    c.add_inside-in-OptionalExpression.new.recording form.is
    (as_inside env c.get-in-OptionalExpression.ensures c.in_ok-add_inside-in-OptionalExpression.ensures)
