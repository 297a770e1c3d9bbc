use Rattle.rc_ranges.proofs.WithinLemmas.{none_within, part_more}
use Rattle.rc_ranges.proofs.section.hull_of_groups.Goals as goal

pub loop-group-init : goal.loop-group-init
loop-group-init c = none_within _

pub loop-group-preserved : goal.loop-group-preserved
loop-group-preserved c =
    part_more c.loop-group.ids c.hull-ids.result c.ids.result c.args.groups.now c.loop-group.group-index
    c.group-item.result c.loop-group-test.true c.group-item.is c.hull-ids.ensures.one c.hull-ids.ensures.other
    c.ids.ensures c.loop-group.invariant
