-- The places of nested functions' contexts to visit. A place is inside wherever it is visited, unless its scope has a
-- block. The places of one scope are outside together, and only the last operand outside is kept, so the last one of a
-- scope is enough, at the ids of its scope's range. A place with a number outside its table stays, since the first such
-- number is named; it is visited alone, since the check ends there.
use Rattle.std.specs.Prelude.{Bool, false, true, ◌&&◌, ◌||◌, not, List, [], ◌∷◌, Option, None, Some, Result, Ok, Err}
use Rattle.std.specs.Prelude.{if◌then◌else◌, filter_map, map}
use Rattle.std.specs.List.{find, list_any}
use Rattle.std.specs.Result.{is_err}
use Rattle.rc_hir.specs.Model.{Environment, Fault, Place}
use Rattle.rc_names.specs.Numbers.{EvaluationOrder, ScopeId, is_among, same_id}
use Rattle.rc_ranges.specs.Ranges.{places_at}
use Rattle.rc_ranges.specs.declared.ranged_place.RangedPlace.{RangedPlace}
use Rattle.rc_tree.specs.Step.{bind}
use Rattle.rc_checks.specs.declared.membership.contexts.ContextToVisit.{ContextToVisit}
use Rattle.rc_checks.specs.Membership.{range_of, scope_of}

-- the scope of an identifier is that one
abbrev pub is_scope : ScopeId → Result (Option ScopeId) Fault → Bool
is_scope scope (Ok (Some own)) = same_id scope own
is_scope scope (Ok None) = false
is_scope scope (Err fault) = false

-- the scope of one of the places is that one
abbrev pub has_scope : Environment → List Place → ScopeId → Bool
has_scope env places scope = list_any (λ place. is_scope scope (scope_of env place.identifier)) places

module _ (env : Environment) (blocks : List ScopeId) where
  -- the scope of an identifier has a block and isn't met, or a number is outside its table
  abbrev pub is_needed : (ScopeId → Bool) → Result (Option ScopeId) Fault → Bool
  is_needed is_met (Ok (Some scope)) = is_err (range_of env scope) || (is_among blocks scope && not (is_met scope))
  is_needed is_met (Ok None) = false
  is_needed is_met (Err fault) = true

  -- a place, where it is needed, in front of those that are left of the places after it
  abbrev pub in_front : Place → List Place → List Place
  in_front place left = if is_needed (has_scope env left) (scope_of env place.identifier) then place ∷ left else left

  -- the places to visit, in their order: of each scope that has a block the last one, and each place with a number
  -- outside its table
  abbrev pub places_to_visit : List Place → List Place
  places_to_visit [] = []
  places_to_visit (place ∷ places) = in_front place (places_to_visit places)

-- what is known of a place
abbrev pub if_known : Result (Option RangedPlace) Fault → Option RangedPlace
if_known (Ok ranged) = ranged
if_known (Err fault) = None

module _ (env : Environment) where
  -- a place with the range of that scope, where there is one
  abbrev pub with_range_of : Place → Option ScopeId → Result (Option RangedPlace) Fault
  with_range_of place None = Ok None
  with_range_of place (Some scope) =
      bind (range_of env scope) (λ range. Ok (Some (record { place = place; range = range })))

  -- a place with the range of its scope; a number outside its table is a bad name
  abbrev pub with_range : Place → Result (Option RangedPlace) Fault
  with_range place = bind (scope_of env place.identifier) (with_range_of place)

  -- a number of the place is outside its table
  abbrev pub is_unknown : Place → Bool
  is_unknown place = is_err (with_range place)

  -- the known places that have a scope, with its range
  abbrev pub known_places : List Place → List RangedPlace
  known_places places = filter_map (λ place. if_known (with_range place)) places

  -- the first unknown place, and the known ones
  abbrev pub by_range : List Place → ContextToVisit
  by_range places = record { unknown = find is_unknown places; known = known_places places }

  -- of each function, what is visited of its context, given the scopes that have a block
  abbrev pub contexts_to_visit : List ScopeId → List ContextToVisit
  contexts_to_visit blocks = map (λ function. by_range (places_to_visit env blocks function.context)) env.functions

-- an unknown place alone, where there is one
abbrev pub unknown_or : Option Place → List Place → List Place
unknown_or None known = known
unknown_or (Some place) known = place ∷ []

-- what is visited of a context at that id: the unknown place, or the known ones whose range has the id
abbrev pub visited_at : EvaluationOrder → ContextToVisit → List Place
visited_at id context = unknown_or context.unknown (places_at id context.known)
