use Rattle.std.proofs.Common.{◌≡◌, drop, length}
use Rattle.std.specs.Cmp.Lexicographic.{pointwise}
use Rattle.rc_slots.specs.inside.CachedSlots.{has_value}
use Rattle.rc_slots.proofs.cache.have_values.Given as goal

abbrev pub invariant-loop-slot : goal.invariant-loop-slot
invariant-loop-slot l =
    pointwise has_value (drop (length l.yielded) l.slots) (drop (length l.yielded) l.values) ≡ pointwise has_value l.slots l.values
