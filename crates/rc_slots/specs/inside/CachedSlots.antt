-- Which items the slots of a cache hold. The slots of each entry follow those of the entries before it, and are its
-- dependencies, then its outputs.
use Rattle.std.specs.Prelude.{◌+◌, ◌++◌, Bool, false, is_some, ℕ, length, map, nat_eq, replicate, take, drop, List, [], ◌∷◌, Option, Some, None}
use Rattle.std.specs.Prelude.{if◌then◌else◌}
use Rattle.std.specs.List.{filter_map}
use Rattle.rc_slots.specs.declared.plan.ScopeSlots.{ScopeSlots}
use Rattle.rc_slots.specs.declared.cache.ScopeValues.{ScopeValues}
use Rattle.rc_slots.specs.declared.cache.ScopeAnswer.{ScopeAnswer}
use Rattle.rc_slots.specs.Slots.{size}

-- this many empty slots
abbrev pub empty_slots : ℕ → List (Option ℕ)
empty_slots count = replicate count None

-- the values in slots, without the empty ones
abbrev pub values_in : List (Option ℕ) → List ℕ
values_in = filter_map (λ slot. slot)

-- there are slots, and the first has a value
abbrev pub is_filled : List (Option ℕ) → Bool
is_filled [] = false
is_filled (slot ∷ slots) = is_some slot

-- the slot has the value
abbrev pub has_value : Option ℕ → ℕ → Bool
has_value None value = false
has_value (Some kept) value = nat_eq kept value

-- The item in the slots of an entry with this many dependencies. There is none if there are no slots or the first is
-- empty.
abbrev pub item_in : ℕ → List (Option ℕ) → Option ScopeValues
item_in dependencies [] = None
item_in dependencies (None ∷ slots) = None
item_in dependencies (Some value ∷ slots) = Some (record {
  dependencies = values_in (take dependencies (Some value ∷ slots));
  outputs = values_in (drop dependencies (Some value ∷ slots));
})

-- the items in the slots of all entries
abbrev pub items_in : List ScopeSlots → List (Option ℕ) → List (Option ScopeValues)
items_in [] slots = []
items_in (entry ∷ entries) slots =
    item_in entry.dependencies (take (size entry) slots) ∷ items_in entries (drop (size entry) slots)

-- the slots of an entry that keeps these values
abbrev pub filled : ScopeValues → List (Option ℕ)
filled values = map Some values.dependencies ++ map Some values.outputs

-- how many slots the values of an entry take
abbrev pub slot_count : ScopeValues → ℕ
slot_count values = length values.dependencies + length values.outputs

-- how many slots the values of all entries take
abbrev pub slot_counts : List ScopeValues → ℕ
slot_counts [] = 0
slot_counts (given ∷ values) = slot_count given + slot_counts values

-- the slots of an entry after a render in which it did or didn't recompute
abbrev pub kept_slots : ScopeValues → Bool → List (Option ℕ) → List (Option ℕ)
kept_slots given recomputed slots = if recomputed then filled given else slots

-- the slots of all entries after the answers to a render
abbrev pub slots_after : List ScopeValues → List ScopeAnswer → List (Option ℕ) → List (Option ℕ)
slots_after (given ∷ values) (answer ∷ answers) slots =
    kept_slots given answer.recomputed (take (slot_count given) slots) ++ slots_after values answers (drop (slot_count given) slots)
slots_after _ _ slots = slots
