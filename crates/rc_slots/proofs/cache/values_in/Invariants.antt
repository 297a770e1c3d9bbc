use Rattle.std.proofs.Common.{◌≡◌, ◌++◌, drop}
use Rattle.rc_slots.specs.inside.CachedSlots.{values_in}
use Rattle.rc_slots.proofs.cache.values_in.Given as goal

abbrev pub invariant-loop-slot : goal.invariant-loop-slot
invariant-loop-slot l = l.values ++ values_in (drop l.slot-index l.slots) ≡ values_in l.slots
