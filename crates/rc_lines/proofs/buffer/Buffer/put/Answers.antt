use Rattle.std.proofs.Common.{rules}
use Rattle.rc_lines.proofs.SentLemmas.{sent_more, sent_some_more, sent_waits}
use Rattle.rc_lines.proofs.buffer.Buffer.put.Goals as goal

pub returns-in_err-make_room-clause-err : goal.returns-in_err-make_room-clause-err
returns-in_err-make_room-clause-err g c =
    let some = sent_some_more _ _ _ _ _ _ c.loop-at.invariant.sent c.in_err-make_room.ensures.err in search rules

pub loop-at-preserved : goal.loop-at-preserved
loop-at-preserved g c = record {
  within = search rules;
  sent = sent_waits _ _ _ _ _ _ c.loop-at.at c.fill-at.result c.fill-at.ensures.bytes
      (sent_more _ _ _ _ _ _ c.loop-at.invariant.sent _ c.in_ok-make_room.ensures.ok);
  later = search rules;
}
