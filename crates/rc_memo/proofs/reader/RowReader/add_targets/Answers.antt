use Rattle.rc_memo.proofs.RecordingLemmas.{no_targets, targets_next}
use Rattle.rc_memo.proofs.StepsLemmas.{one_more}
use Rattle.rc_memo.specs.inside.Recording.{AddsTargets}
use Rattle.rc_memo.proofs.reader.RowReader.add_targets.Goals as goal

pub loop-given-init : goal.loop-given-init
loop-given-init c = no_targets c.args.self.now.env.now c.args.id c.args.row c.args.recording.now

pub loop-given-preserved : goal.loop-given-preserved
loop-given-preserved c =
    let env = c.args.self.now.env.now in
    one_more (AddsTargets env c.args.id c.args.row) (targets_next env c.args.id c.args.row)
    c.as_slice-given-items.result.now c.loop-given.given-index _ c.args.recording.now c.loop-given.recording
    c.add_target.new.recording c.loop-given-test.true c.loop-given.invariant c.in_ok-add_target.ensures
