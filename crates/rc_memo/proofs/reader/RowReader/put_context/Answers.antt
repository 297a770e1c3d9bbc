use Rattle.std.proofs.Common.{subst}
use Rattle.rc_memo.proofs.RecordingLemmas.{puts_context}
use Rattle.rc_memo.specs.inside.Recording.{PutsRow}
use Rattle.rc_memo.proofs.reader.RowReader.put_context.Goals as goal

pub returns-in_ok-insert : goal.returns-in_ok-insert
returns-in_ok-insert c =
    let env = c.args.self.now.env.now in
    let mid = c.put_operands.new.recording in
    puts_context env c.args.context.now c.args.function c.in-Some.row c.args.recording.now mid c.insert.new.self
    c.requires
    (subst (λ w. PutsRow env c.args.context.now w c.args.recording.now mid) c.in-Some.is c.in_ok-row.ensures)
    c.in_ok-insert.ensures.entries
