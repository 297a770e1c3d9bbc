use Rattle.rc_memo.proofs.RecordingLemmas.{mentions_next, no_mentions}
use Rattle.rc_memo.proofs.StepsLemmas.{all_taken, one_more}
use Rattle.rc_memo.specs.inside.Recording.{AddsMentions}
use Rattle.rc_memo.proofs.reader.RowReader.add_mentions.Goals as goal

pub loop-operand-init : goal.loop-operand-init
loop-operand-init c = no_mentions c.args.self.now.env.now c.args.id c.args.recording.now

pub loop-operand-preserved : goal.loop-operand-preserved
loop-operand-preserved c =
    let env = c.args.self.now.env.now in
    one_more (AddsMentions env c.args.id) (mentions_next env c.args.id) c.args.operands.now
    c.loop-operand.operand-index _ c.args.recording.now c.loop-operand.recording c.add_mention.new.recording
    c.loop-operand-test.true c.loop-operand.invariant c.in_ok-add_mention.ensures

pub returns : goal.returns
returns c = all_taken
    (λ w. AddsMentions c.args.self.now.env.now c.args.id w c.args.recording.now c.loop-operand.recording)
    c.args.operands.now c.loop-operand.operand-index c.loop-operand-test.false c.loop-operand.invariant
