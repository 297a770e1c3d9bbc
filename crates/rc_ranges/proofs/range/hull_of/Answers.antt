use Rattle.rc_ranges.proofs.WithinLemmas.{entry_more, none_within}
use Rattle.rc_ranges.proofs.range.hull_of.Goals as goal

pub loop-entry-init : goal.loop-entry-init
loop-entry-init c = none_within _

pub loop-entry-preserved : goal.loop-entry-preserved
loop-entry-preserved c =
    entry_more c.loop-entry.ids c.hull-ids.result c.args.entries.now c.loop-entry.entry-index _ c.loop-entry-test.true
    c.hull-ids.ensures.one c.hull-ids.ensures.other c.loop-entry.invariant
