-- What scope blocks answer in renders, where each recomputes if the value of one of its dependencies has changed. Each
-- scope block is on its own, also one that is inside another.
use Rattle.std.specs.Prelude.{◌≡◌, ◌+◌, Bool, true, ℕ, length, map, nat_eq, not, ◌||◌, List, [], ◌∷◌, Option, Some, None}
use Rattle.std.specs.Prelude.{if◌then◌else◌}
use Rattle.std.specs.List.{AllZip}
use Rattle.std.specs.Cmp.Lexicographic.{pointwise}
use Rattle.rc_slots.specs.declared.plan.ScopeSlots.{ScopeSlots}
use Rattle.rc_slots.specs.declared.cache.ScopeValues.{ScopeValues}
use Rattle.rc_slots.specs.declared.cache.ScopeAnswer.{ScopeAnswer}
use Rattle.rc_slots.specs.Slots.{size}

-- a cache: the entries of its plan, and an item for each: none, or the values given in its last recomputing render
pub record CacheItems : Type 0 where
  pub scopes : List ScopeSlots
  pub items : List (Option ScopeValues)

-- A render gives an entry as many dependencies as it has, and as many outputs as it has declarations and reassignments.
pub record Fits (entry : ScopeSlots) (given : ScopeValues) : Type 0 where
  pub dependencies : length given.dependencies ≡ entry.dependencies
  pub outputs : length given.outputs ≡ entry.declarations + entry.reassignments

-- a render gives each entry values that fit
abbrev pub AllFit : List ScopeSlots → List ScopeValues → Type 0
AllFit = AllZip Fits

-- no entry has an item
abbrev pub no_items : List ScopeSlots → List (Option ScopeValues)
no_items = map (λ entry. None)

-- An entry recomputes if it has no slot, if it has no item, or if the value of a dependency differs from the item's.
abbrev pub is_recomputed : ScopeSlots → Option ScopeValues → ScopeValues → Bool
is_recomputed entry None given = true
is_recomputed entry (Some item) given =
    nat_eq (size entry) 0 || not (pointwise nat_eq item.dependencies given.dependencies)

-- An entry with slots that recomputes keeps the given values as its item, and every other item stays.
abbrev pub item_after : ScopeSlots → Option ScopeValues → ScopeValues → Option ScopeValues
item_after entry item given =
    if nat_eq (size entry) 0 then item else (if is_recomputed entry item given then Some given else item)

-- An entry that recomputes has the given outputs, and any other those of its item.
abbrev pub outputs_of : ScopeSlots → Option ScopeValues → ScopeValues → List ℕ
outputs_of entry None given = given.outputs
outputs_of entry (Some item) given = if is_recomputed entry (Some item) given then given.outputs else item.outputs

-- the answer of an entry to a render
abbrev pub answer_of : ScopeSlots → Option ScopeValues → ScopeValues → ScopeAnswer
answer_of entry item given = record {
  recomputed = is_recomputed entry item given;
  outputs = outputs_of entry item given;
}

-- the answers of all entries to a render
abbrev pub answers : List ScopeSlots → List (Option ScopeValues) → List ScopeValues → List ScopeAnswer
answers (entry ∷ entries) (item ∷ items) (given ∷ values) = answer_of entry item given ∷ answers entries items values
answers _ _ _ = []

-- the items of all entries after a render
abbrev pub items_after : List ScopeSlots → List (Option ScopeValues) → List ScopeValues → List (Option ScopeValues)
items_after (entry ∷ entries) (item ∷ items) (given ∷ values) =
    item_after entry item given ∷ items_after entries items values
items_after _ _ _ = []

-- the answers to renders in turn, from these items on
abbrev pub all_answers : List ScopeSlots → List (Option ScopeValues) → List (List ScopeValues) → List (List ScopeAnswer)
all_answers entries items [] = []
all_answers entries items (values ∷ renders) =
    answers entries items values ∷ all_answers entries (items_after entries items values) renders
