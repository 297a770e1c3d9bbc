use Rattle.rc_memo.proofs.RecordingLemmas.{target_added}
use Rattle.rc_memo.proofs.StepsLemmas.{onward}
use Rattle.rc_memo.proofs.reader.RowReader.add_target.Goals as goal

pub returns : goal.returns
returns c = onward c.record_active.result
    (target_added c.args.self.now.env.now c.args.id c.args.row c.args.given c.target-target.result
    c.resolved-name.result c.args.recording.now c.put_target.new.nodes c.record_active.new.scopes
    c.target-target.ensures c.resolved-name.ensures c.in_ok-put_target.ensures) c.record_active.ensures
