-- The slots of scope blocks: one for each entry of the scope's three lists, and those of one block after those of
-- another.
use Rattle.std.specs.Prelude.{◌≡◌, ◌+◌, ℕ, List, [], ◌∷◌, length, map, Option, Some, None, slice_get}
use Rattle.std.specs.List.{find}
use Rattle.std.specs.Option.{is_none}
use Rattle.rc_hir.specs.Model.{Environment, ReactiveScope}
use Rattle.rc_names.specs.Numbers.{ScopeId}
use Rattle.rc_tree.specs.Model.{ReactiveFunction}
use Rattle.rc_slots.specs.ScopeBlocks.{scopes_entered}
use Rattle.rc_slots.specs.declared.numbering.ScopeLengths.{ScopeLengths}
use Rattle.rc_slots.specs.declared.plan.ScopeSlots.{ScopeSlots}
use Rattle.rc_slots.specs.declared.plan.SlotPlan.{SlotPlan}

-- how many slots a scope block has
abbrev pub size : ScopeSlots → ℕ
size entry = entry.dependencies + entry.declarations + entry.reassignments

-- how many slots scope blocks have together
abbrev pub sizes : List ScopeSlots → ℕ
sizes [] = 0
sizes (entry ∷ entries) = size entry + sizes entries

-- the first entry begins here, and each other one where the one before it ends
abbrev pub BeginAt : ℕ → List ScopeSlots → Type 0
BeginAt first [] = Unit {0}
BeginAt first (entry ∷ entries) = (entry.first ≡ first) × BeginAt (first + size entry) entries

-- A plan: the first slot of each entry is the number of slots of all earlier entries, and the total is the number of
-- all.
pub record IsPlan (plan : SlotPlan) : Type 0 where
  pub firsts : BeginAt 0 plan.scopes
  pub total : plan.total ≡ sizes plan.scopes

-- the slots of a scope block with lists of these lengths, from the first on
abbrev pub slots_from : ℕ → ScopeLengths → ScopeSlots
slots_from first lengths = record {
  scope = lengths.scope;
  first = first;
  dependencies = lengths.dependencies;
  declarations = lengths.declarations;
  reassignments = lengths.reassignments;
}

-- the slots of scope blocks, one after the other
abbrev pub entries_from : ℕ → List ScopeLengths → List ScopeSlots
entries_from first [] = []
entries_from first (lengths ∷ more) =
    slots_from first lengths ∷ entries_from (first + size (slots_from first lengths)) more

-- the plan for scope blocks with lists of these lengths
abbrev pub numbered : List ScopeLengths → SlotPlan
numbered all = record { scopes = entries_from 0 all; total = sizes (entries_from 0 all) }

-- the lengths of the lists of a scope; one that isn't in the table has none
abbrev pub lengths_if : ScopeId → Option ReactiveScope → ScopeLengths
lengths_if scope None = record { scope = scope; dependencies = 0; declarations = 0; reassignments = 0 }
lengths_if scope (Some known) = record {
  scope = scope;
  dependencies = length known.dependencies;
  declarations = length known.declarations;
  reassignments = length known.reassignments;
}

module _ (env : Environment) where
  abbrev pub lengths_in : ScopeId → ScopeLengths
  lengths_in scope = lengths_if scope (slice_get env.scopes scope.0)

  -- the slots of a function's scope blocks, in the order of the read walk
  abbrev pub slots_of : ReactiveFunction → SlotPlan
  slots_of func = numbered (map lengths_in (scopes_entered func.body))

  -- the first of these scopes that isn't in the table
  abbrev pub first_outside : List ScopeId → Option ScopeId
  first_outside = find (λ scope. is_none (slice_get env.scopes scope.0))
