-- Which slot each entry of a scope block's lists has.
use Rattle.std.specs.Prelude.{◌≡◌, ◌+◌, ◌<◌, ℕ, Some, slice_get}
use Rattle.rc_slots.specs.declared.owner.SlotOwner.{SlotOwner}
use Rattle.rc_slots.specs.declared.owner.SlotPart.{SlotPart}
use Rattle.rc_slots.specs.declared.owner.SlotPart.TheVariants.{Dependency, Declaration, Reassignment}
use Rattle.rc_slots.specs.declared.plan.ScopeSlots.{ScopeSlots}
use Rattle.rc_slots.specs.declared.plan.SlotPlan.{SlotPlan}

-- the slot is that of an entry of the scope block's lists: of dependencies first, then of declarations, then of
-- reassignments
abbrev pub HasSlot : ScopeSlots → SlotPart → ℕ → Type 0
HasSlot entry (Dependency place) slot = (place < entry.dependencies) × (slot ≡ entry.first + place)
HasSlot entry (Declaration place) slot =
    (place < entry.declarations) × (slot ≡ entry.first + entry.dependencies + place)
HasSlot entry (Reassignment place) slot =
    (place < entry.reassignments) × (slot ≡ entry.first + entry.dependencies + entry.declarations + place)

-- the slot is that of an entry of the lists of the scope block at this position
pub record BelongsTo (plan : SlotPlan) (slot : ℕ) (position : ℕ) (part : SlotPart) : Type 0 where
  pub entry : ScopeSlots
  pub here : slice_get plan.scopes position ≡ Some entry
  pub has : HasSlot entry part slot

-- the slot is that of one entry of the lists of one scope block, which has this scope
pub record IsOwner (plan : SlotPlan) (slot : ℕ) (owner : SlotOwner) : Type 0 where
  pub position : ℕ
  pub belongs : BelongsTo plan slot position owner.part
  pub scope : owner.scope ≡ belongs.entry.scope
  pub alone : (other : ℕ) (part : SlotPart) → BelongsTo plan slot other part → (other ≡ position) × (part ≡ owner.part)
