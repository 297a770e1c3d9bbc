use Rattle.std.proofs.Common.{◌≡◌, take}
use Rattle.rc_ranges.specs.inside.Entries.{places_with}
use Rattle.rc_ranges.proofs.places_by_range.places_with.Given as goal

abbrev pub invariant-loop-index : goal.invariant-loop-index
invariant-loop-index l = l.found ≡ places_with l.places (take l.index-index l.indices)
