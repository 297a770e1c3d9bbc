-- The places of scopes in a list, as they are noted one after the other.
use Rattle.std.proofs.Common.{◌≡◌, ◌∙◌, ◌+◌, ◌<◌, ℕ, Bool, true, false, List, ◌++◌, [], ◌∷◌, Option, None, Some, Contains}
use Rattle.std.proofs.Common.{ap, get_or, inl, inr, length, refl, subst, sym, take}
use Rattle.std.specs.Map.{lookup}
use Rattle.std.specs.Prelude.{slice_get}
use Rattle.std.proofs.lemmas.List.{take_more}
use Rattle.std.proofs.lemmas.List.Elements.{Contains-push_cases}
use Rattle.std.proofs.lemmas.Option.{slice_get-get_or}
use Rattle.indexmap.specs.IndexMap.{insert_entry}
use Rattle.rc_names.proofs.KeyedLemmas.{lookup-insert_other, lookup-insert_there}
use Rattle.rc_names.proofs.NumbersLemmas.{ids_equivalence, same_id-eq}
use Rattle.rc_names.specs.Numbers.{ScopeId, same_id}
use Rattle.rc_why.specs.inside.Places.{HasPlaces, IsPlaceOf}

module _ (scopes : List ScopeId) (place : ℕ) (default : ScopeId) (below : place < length scopes) where
  -- the scope at that place
  abbrev scope : ScopeId
  scope = get_or scopes place default

  -- another scope is among the first ones and this one exactly if it is among the first ones
  apart_stays : (other : ScopeId) → same_id other scope ≡ false → (found : Option ℕ)
      → IsPlaceOf scopes (take place scopes) other found → IsPlaceOf scopes (take (place + 1) scopes) other found
  apart_stays other apart (Some found) is = is
  apart_stays other apart None none = λ there.
      elim (Contains-push_cases (take place scopes) scope other
      (subst (λ first. Contains first other) (take_more scopes place default below) there)) [
        | inl before ↦ none before
        | inr same ↦ let is : same_id other scope ≡ true = ap (same_id other) same ∙ ids_equivalence.refl other in
            absurd (let no : ⊥ = cc in no)
      ]

  -- this scope is noted with its place
  pub place_noted : (places new : List (ScopeId × ℕ)) → new ≡ insert_entry same_id places scope place
      → HasPlaces scopes (take place scopes) places → HasPlaces scopes (take (place + 1) scopes) new
  place_noted places new is before other =
      subst (λ pairs. IsPlaceOf scopes (take (place + 1) scopes) other (lookup (same_id other) pairs)) (sym is)
      (by (same_id other scope) refl)
    where
      by : (same : Bool) → same_id other scope ≡ same → IsPlaceOf scopes (take (place + 1) scopes) other
          (lookup (same_id other) (insert_entry same_id places scope place))
      by true same =
          subst (λ id. IsPlaceOf scopes (take (place + 1) scopes) id
          (lookup (same_id id) (insert_entry same_id places scope place))) (sym (same_id-eq other scope same))
          (subst (IsPlaceOf scopes (take (place + 1) scopes) scope)
          (sym (lookup-insert_there ids_equivalence scope place places)) (slice_get-get_or scopes place default below))
      by false apart =
          subst (IsPlaceOf scopes (take (place + 1) scopes) other)
          (sym (lookup-insert_other ids_equivalence scope place places other (ids_equivalence.symm scope other ∙ apart)))
          (apart_stays other apart (lookup (same_id other) places) (before other))
