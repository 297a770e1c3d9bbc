-- What the collecting walk tells, as steps; and the functions whose contexts tell nothing new.
use Rattle.std.specs.Prelude.{◌≡◌, ◌⊎◌, true, List, [], ◌∷◌, Option, None, Some, Result, Ok, Err, slice_get}
use Rattle.std.specs.Prelude.{if◌then◌else◌}
use Rattle.std.specs.List.{flat_map}
use Rattle.indexmap.specs.IndexSet.{insert_key}
use Rattle.rc_hir.specs.Model.{Fault, HirFunction, Place}
use Rattle.rc_hir.specs.declared.fault.Fault.TheVariants.{NoMemory}
use Rattle.rc_names.specs.Numbers.{FunctionId, IdentifierId, is_among, same_id}
use Rattle.rc_flow.specs.Collected.{place_steps}
use Rattle.rc_flow.specs.declared.step.Step.{Step}
use Rattle.rc_flow.specs.declared.told.Told.{Told}
use Rattle.rc_flow.specs.declared.told.Told.TheVariants as told

-- the context of a function that was looked up
abbrev pub context_if : Option HirFunction → List Place
context_if None = []
context_if (Some function) = function.context

-- the set with the name of a place that is marked reactive, and with those of places
abbrev pub with_place : Place → List IdentifierId → List IdentifierId
with_place place set = if place.reactive then insert_key same_id set place.identifier else set

abbrev pub with_places : List Place → List IdentifierId → List IdentifierId
with_places [] set = set
with_places (place ∷ places) set = with_places places (with_place place set)

-- the names of places that are marked reactive
abbrev pub marked_names : List Place → List IdentifierId
marked_names = flat_map (λ (place : Place). if place.reactive then place.identifier ∷ [] else [])

module _ (functions : List HirFunction) where
  abbrev pub context_of : FunctionId → List Place
  context_of function = context_if (slice_get functions function.0)

  -- the steps that are told at one place, and at all
  abbrev pub steps_told_at : Told → List Step
  steps_told_at (told.Step step) = step ∷ []
  steps_told_at (told.Context function) = flat_map place_steps (context_of function)

  abbrev pub steps_told : List Told → List Step
  steps_told = flat_map steps_told_at

  -- the marked names of these functions' contexts are in the set
  abbrev pub AreTaken : List FunctionId → List IdentifierId → Type 0
  AreTaken taken set =
      (function : FunctionId) → is_among taken function ≡ true → (name : IdentifierId)
      → is_among (marked_names (context_of function)) name ≡ true → is_among set name ≡ true

-- the walk tells the expected steps, or ends in the expected fault, or runs out of memory
abbrev pub IsTold : List HirFunction → Result (List Step) Fault → Result (List Told) Fault → Type 0
IsTold functions expected (Ok found) = expected ≡ Ok (steps_told functions found)
IsTold functions expected (Err fault) = (fault ≡ NoMemory) ⊎ (expected ≡ Err fault)
