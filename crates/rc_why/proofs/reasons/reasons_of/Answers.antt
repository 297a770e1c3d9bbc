use Rattle.rc_why.proofs.ReasonLemmas.{reason_more}
use Rattle.rc_why.proofs.reasons.reasons_of.Goals as goal

pub loop-entry-preserved : goal.loop-entry-preserved
loop-entry-preserved c =
    reason_more c.args.env.now c.args.told.now c.args.fates.now c.loop-entry.entry-index _ c.loop-entry-test.true
    c.loop-entry.reasons _ c.in_ok-reason_of.field-0 c.in_ok-push.ensures.ok c.in_ok-reason_of.ensures.fate
    c.in_ok-reason_of.ensures.facts c.loop-entry.invariant
