use Rattle.std.proofs.Common.{◌≡◌, map, take}
use Rattle.rc_ranges.specs.declared.ranged_place.RangedPlace.{RangedPlace}
use Rattle.rc_ranges.proofs.places_by_range.places_of.Given as goal

abbrev pub invariant-loop-ranged : goal.invariant-loop-ranged
invariant-loop-ranged l = l.list ≡ map (λ (ranged : RangedPlace). ranged.place) (take l.ranged-index l.places)
