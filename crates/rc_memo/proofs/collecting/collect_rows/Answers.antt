use Rattle.rc_memo.proofs.TellsLemmas.{record_made}
use Rattle.rc_memo.proofs.collecting.collect_rows.Goals as goal

pub returns-in-None-clause-ok : goal.returns-in-None-clause-ok
returns-in-None-clause-ok c =
    record_made c.args.func.now c.args.env.now c.in_ok-recording.recording c.in_ok-recording.ensures c.in-None.is
