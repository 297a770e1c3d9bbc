use Rattle.std.proofs.Common.{refl}
use Rattle.rc_memo.proofs.StepsLemmas.{onward}
use Rattle.rc_memo.proofs.TellsLemmas.{tells_mentions, tells_row}
use Rattle.rc_memo.proofs.reader.RowReader.record_row.Goals as goal

pub returns-then-is_empty : goal.returns-then-is_empty
returns-then-is_empty c =
    tells_mentions c.args.self.now.env.now c.args.id c.args.operands.now c.args.levels.now c.args.recording.now
    c.add_mentions.new.recording (c.if-is_empty.ensures.0 refl) c.in_ok-add_mentions.ensures

pub returns : goal.returns
returns c = onward c.add_targets.result
    (tells_row c.args.self.now.env.now c.args.id c.args.operands.now c.args.levels.now c.in_ok-row.row
    c.args.recording.now c.add_mentions.new.recording c.row_of.new.recording c.add_targets.new.recording
    c.in_ok-add_mentions.ensures c.in_ok-row.ensures) c.add_targets.ensures
