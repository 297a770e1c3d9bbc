use Rattle.rc_memo.proofs.RecordingLemmas.{puts_last, puts_none}
use Rattle.rc_memo.proofs.StepsLemmas.{none_left}
use Rattle.rc_memo.proofs.reader.RowReader.put_operands.Goals as goal

pub returns-then-is_empty : goal.returns-then-is_empty
returns-then-is_empty c = puts_none c.args.self.now.env.now c.args.places.now c.args.recording.now
    (none_left c.args.places.now c.if-is_empty.ensures)

pub returns : goal.returns
returns c =
    puts_last c.args.self.now.env.now c.args.places.now c.in_ok-names.names c.len-row.result c.args.recording.now
    c.push.new.self c.len-row.ensures c.in_ok-names.ensures c.in_ok-push.ensures.ok
