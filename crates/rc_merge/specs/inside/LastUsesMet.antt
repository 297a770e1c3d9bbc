-- The last uses as the walk meets them: those of places, and for each function the last row that names it, which uses
-- the places in the function's context.
use Rattle.std.specs.Prelude.{Bool, false, List, [], ◌∷◌, Option, None, Some, Ok, nat_lt, not, slice_get}
use Rattle.std.specs.Prelude.{if◌then◌else◌}
use Rattle.indexmap.specs.IndexMap.{insert_entry}
use Rattle.std.specs.Map.{lookup}
use Rattle.std.specs.Option.{option_map_or}
use Rattle.rc_hir.specs.Environment.{declaration_of}
use Rattle.rc_hir.specs.Model.{Environment, HirFunction, Place}
use Rattle.rc_names.specs.Numbers.{DeclarationId, EvaluationOrder, FunctionId, same_id}
use Rattle.rc_tree.specs.ReadSteps.{ReadSteps, idle}
use Rattle.rc_merge.specs.LastUses.{LastUses, later_of}

-- there is an id that isn't below this one
abbrev pub is_from : EvaluationOrder → Option EvaluationOrder → Bool
is_from id None = false
is_from id (Some last) = not (nat_lt last.0 id.0)

-- the later id is kept under a key
abbrev pub put_later : {K : Type 0} → (K → K → Bool) → K → EvaluationOrder → List (K × EvaluationOrder)
    → List (K × EvaluationOrder)
put_later same key id ids = if is_from id (lookup (same key) ids) then ids else insert_entry same ids key id

abbrev pub uses_of : List (DeclarationId × EvaluationOrder) → LastUses
uses_of uses name = lookup (same_id name) uses

-- the later one of two ids that may be there
abbrev pub later_if : Option EvaluationOrder → Option EvaluationOrder → Option EvaluationOrder
later_if None last = last
later_if (Some id) last = later_of id last

module _ (env : Environment) where
  abbrev pub is_place_of : DeclarationId → Place → Bool
  is_place_of name place = same_id (declaration_of env place.identifier) name

  -- a use of a place at an id
  abbrev pub with_use : EvaluationOrder → Place → LastUses → LastUses
  with_use id place uses name = if is_place_of name place then later_of id (uses name) else uses name

  -- uses of places at an id, in order
  abbrev pub with_places : EvaluationOrder → List Place → LastUses → LastUses
  with_places id [] uses = uses
  with_places id (place ∷ places) uses = with_places id places (with_use id place uses)

  -- the places in the context of a function, if it is in its table
  abbrev pub context_of : FunctionId → List Place
  context_of function = option_map_or (λ (f : HirFunction). f.context) (slice_get env.functions function.0) []

  -- the uses of contexts
  abbrev pub with_contexts : List (FunctionId × EvaluationOrder) → LastUses → LastUses
  with_contexts [] uses = uses
  with_contexts (context ∷ contexts) uses = with_contexts contexts (with_places context.1 (context_of context.0) uses)

  -- the hook that does something
  abbrev pub use_steps : ReadSteps LastUses
  use_steps = record idle { visit_place = λ id place uses. Ok (tt, with_use id place uses) }
