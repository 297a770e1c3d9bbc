use Rattle.std.proofs.Common.{◌≡◌, Some, map, take}
use Rattle.rc_slots.proofs.cache.fill.Given as goal

abbrev pub invariant-loop-i : goal.invariant-loop-i
invariant-loop-i l = take l.i l.slots ≡ map Some (take l.i l.values)
