-- Numbers in lists.
use Rattle.std.proofs.Common.{◌≡◌, ◌∙◌, ◌⊎◌, ◌<◌, ℕ, true, false, List, [], ◌∷◌, ◌++◌, refl, sym}
use Rattle.std.proofs.Common.{inl, inr, length, get_or, nat_eq, true≢false}
use Rattle.std.proofs.lemmas.Bool.{eqb-true, eq-eqb, or_cases, or_left, or_right}
use Rattle.std.proofs.lemmas.List.Folds.{list_any-append}
use Rattle.std.proofs.lemmas.Map.Keys.{any_passes_from_place}
use Rattle.std.proofs.lemmas.Option.{slice_get-get_or}
use Rattle.rc_replay.specs.inside.Closing.{has}

-- one of two lists has a number that both together have
pub has_either : (left right : List ℕ) (at : ℕ) → has (left ++ right) at ≡ true
    → (has left at ≡ true) ⊎ (has right at ≡ true)
has_either left right at h = or_cases (has left at) (has right at) (sym (list_any-append (nat_eq at) left right) ∙ h)

pub has_left : (left right : List ℕ) (at : ℕ) → has left at ≡ true → has (left ++ right) at ≡ true
has_left left right at h = list_any-append (nat_eq at) left right ∙ or_left (has left at) (has right at) h

pub has_right : (left right : List ℕ) (at : ℕ) → has right at ≡ true → has (left ++ right) at ≡ true
has_right left right at h = list_any-append (nat_eq at) left right ∙ or_right (has left at) (has right at) h

pub has_none : {X : Type 0} (at : ℕ) → has [] at ≡ true → X
has_none at h = absurd (true≢false (sym h))

-- a number that a list of one has
pub has_one : (other at : ℕ) → has (other ∷ []) at ≡ true → at ≡ other
has_one other at h = by (or_cases (nat_eq at other) false h)
  where
    by : (nat_eq at other ≡ true) ⊎ (false ≡ true) → at ≡ other
    by (inl e) = eqb-true at other e
    by (inr e) = has_none at e

pub one_has : (at : ℕ) → has (at ∷ []) at ≡ true
one_has at = or_left (nat_eq at at) false (eq-eqb at at refl)

pub has_at : (here : List ℕ) (i : ℕ) → i < length here → has here (get_or here i 0) ≡ true
has_at here i h = let at = get_or here i 0 in
    any_passes_from_place (nat_eq at) here i at (slice_get-get_or here i 0 h) (eq-eqb at at refl)
