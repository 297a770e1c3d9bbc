-- Where no scope has a block, no operand is outside of one: only a number can be wrong.
use Rattle.std.proofs.Common.{◌≡◌, ◌⊎◌, inl, inr, Bool, true, false, ◌&&◌, List, [], ◌∷◌, Option, None, Some, Result, Ok}
use Rattle.std.proofs.Common.{Err, All, refl, sym, subst, if◌then◌else◌}
use Rattle.std.proofs.lemmas.List.Elements.{All-cons, All-nil}
use Rattle.rc_hir.specs.Model.{Environment, Fault, MutableRange}
use Rattle.rc_names.specs.Numbers.{ScopeId}
use Rattle.rc_ranges.specs.Ranges.{is_in_range}
use Rattle.rc_tree.specs.Model.{ReactiveFunction}
use Rattle.rc_tree.specs.Step.{bind}
use Rattle.rc_tree.specs.TreeNames.{TreeInTables}
use Rattle.rc_checks.specs.Membership.{IsFirstUnknown, IsInside, if_outside, is_outside, outside, range_of, scope_of}
use Rattle.rc_tree.specs.Visits.{PlacedOperand, Visit, visits_of}
use Rattle.rc_tree.specs.ScopesIn.{scopes_in}
use Rattle.rc_checks.proofs.FaultNames.{no_name_outside}
use Rattle.rc_checks.proofs.MembershipCheck.CheckLemmas.{unknown_behind, unknown_here}
use Rattle.rc_checks.proofs.MembershipCheck.UnknownVisits.{first_unknown_outside}

-- the scope of an operand has no block, whether its range has the operand or not
pub never : (b : Bool) → (b && false) ≡ false
never true = refl
never false = refl

module _ (env : Environment) where
  -- no scope is found, or a number is looked up in vain
  abbrev NoneFound : Result (Option ScopeId) Fault → Type 0
  NoneFound answer = (answer ≡ Ok None) ⊎ ((fault : Fault) × (answer ≡ Err fault))

  in_range : (operand : PlacedOperand) (scope : ScopeId) (range : Result MutableRange Fault)
      → NoneFound (bind range (λ range. Ok (if is_outside env [] operand scope range then Some scope else None)))
  in_range operand scope (Err fault) = inr (fault, refl)
  in_range operand scope (Ok range) = inl (rw (never (is_in_range operand.id range)) refl)

  of_scope : (operand : PlacedOperand) (scope : Result (Option ScopeId) Fault)
      → NoneFound (bind scope (if_outside env [] operand))
  of_scope operand (Err fault) = inr (fault, refl)
  of_scope operand (Ok None) = inl refl
  of_scope operand (Ok (Some scope)) = in_range operand scope (range_of env scope)

  none_found : (visit : Visit) → NoneFound (outside env [] visit)
  none_found (Err fault) = inr (fault, refl)
  none_found (Ok operand) = of_scope operand (scope_of env operand.place.identifier)

  -- all visits are inside, or one of them is the first that is unknown
  abbrev AreInsideOrUnknown : List Visit → Type 0
  AreInsideOrUnknown visits = All (IsInside env []) visits ⊎ ((fault : Fault) × IsFirstUnknown env [] visits fault)

  next_visit : (visit : Visit) (visits : List Visit) → NoneFound (outside env [] visit) → AreInsideOrUnknown visits
      → AreInsideOrUnknown (visit ∷ visits)
  next_visit visit visits (inr it) rest = inr (it.0, unknown_here env [] visit visits it.0 it.1)
  next_visit visit visits (inl is) (inl all) = inl (All-cons (IsInside env []) visit visits is all)
  next_visit visit visits (inl is) (inr it) = inr (it.0, unknown_behind env [] visit visits (None, is) it.1)

  inside_or_unknown : (visits : List Visit) → AreInsideOrUnknown visits
  inside_or_unknown [] = inl (All-nil (IsInside env []))
  inside_or_unknown (visit ∷ visits) = next_visit visit visits (none_found visit) (inside_or_unknown visits)

  -- in a tree whose numbers are in their tables, and which has no scope block, each operand is inside
  pub inside_without_blocks : (func : ReactiveFunction) → TreeInTables func env → scopes_in func.body ≡ []
      → All (IsInside env (scopes_in func.body)) (visits_of env.functions func.body)
  inside_without_blocks func known none =
      let within : All (IsInside env []) (visits_of env.functions func.body) =
      elim (inside_or_unknown (visits_of env.functions func.body)) [
        | inl all ↦ all
        | inr it ↦ absurd (no_name_outside func env it.0 known (first_unknown_outside env it.0 [] func it.1))
      ] in
      subst (λ scopes. All (IsInside env scopes) (visits_of env.functions func.body)) (sym none) within
