use Rattle.std.proofs.Common.{◌≡◌, ◌++◌, drop, length}
use Rattle.rc_slots.specs.Slots.{sizes}
use Rattle.rc_slots.specs.CacheRun.{AllFit, answers}
use Rattle.rc_slots.specs.inside.CachedSlots.{items_in}
use Rattle.rc_slots.proofs.cache.answers.Given as goal

abbrev pub invariant-loop-entry : goal.invariant-loop-entry
invariant-loop-entry l =
    (length l.rest ≡ sizes (drop (length l.yielded) l.scopes))
    × AllFit (drop (length l.yielded) l.scopes) (drop (length l.yielded) l.given)
    × (l.answers
    ++ answers (drop (length l.yielded) l.scopes) (items_in (drop (length l.yielded) l.scopes) l.rest) (drop (length l.yielded) l.given)
    ≡ answers l.scopes (items_in l.scopes l.slots) l.given)
