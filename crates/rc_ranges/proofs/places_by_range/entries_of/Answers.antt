use Rattle.rc_ranges.proofs.GivenLemmas.{since_more}
use Rattle.rc_ranges.proofs.places_by_range.entries_of.Goals as goal

pub loop-index-preserved : goal.loop-index-preserved
loop-index-preserved c =
    since_more c.args.places.now c.loop-index.index _ c.loop-index.entries.items c.push.new.self.items
    c.loop-index-test.true c.loop-index.invariant c.in_ok-push.ensures.items
