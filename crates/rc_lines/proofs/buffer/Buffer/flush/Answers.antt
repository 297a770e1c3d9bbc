use Rattle.std.proofs.Common.{rules}
use Rattle.rc_lines.proofs.SentLemmas.{sent_prefix}
use Rattle.rc_lines.proofs.buffer.Buffer.flush.Goals as goal

pub returns-in_err-write_bytes-clause-err : goal.returns-in_err-write_bytes-clause-err
returns-in_err-write_bytes-clause-err g c =
    let some = sent_prefix _ _ _ c.in_err-write_bytes.ensures.err in search rules
