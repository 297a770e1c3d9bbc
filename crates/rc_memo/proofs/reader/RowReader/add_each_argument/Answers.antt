use Rattle.rc_memo.proofs.StepsLemmas.{part_more}
use Rattle.rc_memo.proofs.TellsLemmas.{tells_next, tells_nothing}
use Rattle.rc_memo.specs.RowEvents.{argument_events}
use Rattle.rc_memo.specs.inside.Recording.{Tells}
use Rattle.rc_memo.proofs.reader.RowReader.add_each_argument.Goals as goal

pub loop-argument-init : goal.loop-argument-init
loop-argument-init c = tells_nothing c.args.self.now.env.now c.args.recording.now

pub loop-argument-preserved : goal.loop-argument-preserved
loop-argument-preserved c =
    let env = c.args.self.now.env.now in
    part_more (Tells env) (tells_next env) (argument_events env) c.as_slice-argument-items.result.now
    c.loop-argument.argument-index _ c.args.recording.now c.loop-argument.recording
    c.add_argument.new.recording c.loop-argument-test.true c.loop-argument.invariant
    c.in_ok-add_argument.ensures
