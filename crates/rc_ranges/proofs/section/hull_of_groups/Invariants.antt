use Rattle.std.proofs.Common.{take}
use Rattle.rc_ranges.specs.inside.Entries.{joined}
use Rattle.rc_ranges.specs.inside.Within.{AreWithin}
use Rattle.rc_ranges.proofs.section.hull_of_groups.Given as goal

abbrev pub invariant-loop-group : goal.invariant-loop-group
invariant-loop-group l = AreWithin l.ids (joined (take l.group-index l.groups))
