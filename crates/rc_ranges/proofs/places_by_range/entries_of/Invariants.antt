use Rattle.std.proofs.Common.{◌≡◌, take}
use Rattle.rc_ranges.specs.inside.Entries.{entries_since}
use Rattle.rc_ranges.proofs.places_by_range.entries_of.Given as goal

abbrev pub invariant-loop-index : goal.invariant-loop-index
invariant-loop-index l = l.entries.items ≡ entries_since 0 (take l.index l.places)
