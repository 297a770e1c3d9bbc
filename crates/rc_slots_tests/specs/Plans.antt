-- The entries of the plans that are rendered.
use Rattle.std.specs.Prelude.{List, [], ◌∷◌}
use Rattle.rc_names.specs.Numbers.{to_id}
use Rattle.rc_slots.specs.declared.plan.ScopeSlots.{ScopeSlots}

-- an entry with a dependency and a declaration, whose slots are the first ones
abbrev pub memoized : ScopeSlots
memoized = record { scope = to_id 0; first = 0; dependencies = 1; declarations = 1; reassignments = 0 }

-- an entry without slots
abbrev pub slotless : ScopeSlots
slotless = record { scope = to_id 1; first = 0; dependencies = 0; declarations = 0; reassignments = 0 }

abbrev pub one_entry : List ScopeSlots
one_entry = memoized ∷ []

abbrev pub two_entries : List ScopeSlots
two_entries = slotless ∷ memoized ∷ []
