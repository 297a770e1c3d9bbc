use Rattle.std.proofs.Common.{◌≡◌, ◌+◌, ◌++◌, take, drop, length}
use Rattle.rc_slots.specs.inside.CachedSlots.{slot_counts, slots_after}
use Rattle.rc_slots.proofs.cache.keep.Given as goal

abbrev pub invariant-loop-values : goal.invariant-loop-values
invariant-loop-values l =
    (l.first + slot_counts (drop (length l.yielded) l.given) ≡ length l.slots)
    × (take l.first l.slots
    ++ slots_after (drop (length l.yielded) l.given) (drop (length l.yielded) l.answers) (drop l.first l.slots)
    ≡ slots_after l.given l.answers l.fn.slots)
