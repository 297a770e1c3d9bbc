-- What a head declares, as the code keeps it: declarations with their last uses, and what finds them.
use Rattle.std.specs.Prelude.{◌≡◌, ℕ, Bool, List, Option, None, Some, map, position}
use Rattle.std.specs.List.{filter}
use Rattle.std.specs.Map.{lookup}
use Rattle.indexmap.specs.IndexMap.{insert_entry}
use Rattle.rc_hir.specs.Model.{DeclarationEntry, Environment}
use Rattle.rc_names.specs.Numbers.{DeclarationId, EvaluationOrder, IdentifierId, is_among, same_id}
use Rattle.rc_merge.specs.Joining.{declared_name, declares, is_used_from}
use Rattle.rc_merge.specs.LastUses.{LastUses}
use Rattle.rc_merge.specs.declared.declared.Slot.{Slot}

abbrev pub keys_in : List DeclarationEntry → List IdentifierId
keys_in entries = map (λ entry. entry.key) entries

abbrev pub entries_of : List Slot → List DeclarationEntry
entries_of slots = map (λ slot. slot.entry) slots

-- the last use of the declaration isn't below an id
abbrev pub is_current : EvaluationOrder → Slot → Bool
is_current end slot = is_used_from end slot.last

-- the declarations whose last use isn't below an id
abbrev pub current_of : EvaluationOrder → List Slot → List DeclarationEntry
current_of end slots = entries_of (filter (is_current end) slots)

-- a place for a key that has none
abbrev pub place_if : Option ℕ → IdentifierId → ℕ → List (IdentifierId × ℕ) → List (IdentifierId × ℕ)
place_if None key place places = insert_entry same_id places key place
place_if (Some found) key place places = places

abbrev pub with_place : IdentifierId → ℕ → List (IdentifierId × ℕ) → List (IdentifierId × ℕ)
with_place key place places = place_if (lookup (same_id key) places) key place places

module _ (env : Environment) (uses : LastUses) where
  -- a declaration with the last use of its name
  abbrev pub slot_of : DeclarationEntry → Slot
  slot_of entry = record { entry = entry; last = uses (declared_name env entry) }

  -- each declaration is with its last use, and each key and each name is found where it is
  pub record IsDeclared (slots : List Slot) (places : List (IdentifierId × ℕ)) (names : List DeclarationId) : Type 0 where
    pub lasts : slots ≡ map slot_of (entries_of slots)
    pub placed : (key : IdentifierId) → lookup (same_id key) places ≡ position (same_id key) (keys_in (entries_of slots))
    pub named : (name : DeclarationId) → is_among names name ≡ declares env (entries_of slots) name
