use Rattle.std.proofs.Common.{take}
use Rattle.rc_ranges.specs.inside.Within.{AreWithin}
use Rattle.rc_ranges.proofs.range.hull_of.Given as goal

abbrev pub invariant-loop-entry : goal.invariant-loop-entry
invariant-loop-entry l = AreWithin l.ids (take l.entry-index l.entries)
