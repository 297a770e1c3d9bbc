use Rattle.rc_checks.proofs.MembershipCheck.RangeLemmas.{known_more}
use Rattle.rc_checks.proofs.membership.contexts.by_range.Goals as goal

pub loop-place-preserved : goal.loop-place-preserved
loop-place-preserved c =
    known_more c.args.env.now c.args.places.now c.loop-place.place-index _ c.loop-place.known c.add_known.new.known
    c.loop-place-test.true c.loop-place.invariant c.in_ok-add_known.ensures
