use Rattle.std.proofs.Common.{rules}
use Rattle.rc_pipe.proofs.FatesLemmas.{entry_noted}
use Rattle.rc_pipe.proofs.fates.decisions.Goals as goal

-- one more entry is noted, unless its scope is
pub loop-entry-preserved : goal.loop-entry-preserved
loop-entry-preserved c =
    let log = c.args.log.now in
    let place = c.loop-entry.entry-index in
    entry_noted c.loop-entry.decided c.note.new.decided log place _ (search rules) (search rules) (c.in_ok-note.ensures)
    c.loop-entry.invariant
