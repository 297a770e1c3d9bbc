use Rattle.std.proofs.Common.{◌≡◌, take}
use Rattle.std.specs.List.{flat_map}
use Rattle.rc_hir.specs.Operands.{written_places}
use Rattle.rc_hir.proofs.operands.of_object_pattern.Given as goal

-- the list has the places of the properties so far
abbrev pub invariant-loop-property : goal.invariant-loop-property
invariant-loop-property l = l.places ≡ flat_map written_places (take l.property-index l.property-items)
