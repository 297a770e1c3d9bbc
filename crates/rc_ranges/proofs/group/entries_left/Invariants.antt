use Rattle.std.proofs.Common.{◌≡◌, take}
use Rattle.rc_ranges.specs.inside.Entries.{entries_left}
use Rattle.rc_ranges.proofs.group.entries_left.Given as goal

abbrev pub invariant-loop-entry : goal.invariant-loop-entry
invariant-loop-entry l = l.left.items ≡ entries_left l.id (take l.entry-index l.entries)
