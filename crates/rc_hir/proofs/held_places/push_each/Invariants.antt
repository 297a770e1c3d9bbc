use Rattle.std.proofs.Common.{◌≡◌, ◌++◌, take}
use Rattle.std.specs.List.{flat_map}
use Rattle.rc_hir.proofs.held_places.push_each.Given as goal

-- the list has the places of the items so far
abbrev pub invariant-loop-item : goal.invariant-loop-item
invariant-loop-item g l = l.places ≡ l.initial.places ++ flat_map g.T.HoldsPlaces.held (take l.item-index l.item-items)
