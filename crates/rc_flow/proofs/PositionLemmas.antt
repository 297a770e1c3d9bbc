-- The position of a key is before a place of a list exactly if the key is among the entries before that place.
use Rattle.std.proofs.Common.{◌≡◌, ◌∙◌, ◌≤◌, ◌+◌, ℕ, zero, suc, Bool, true, false, cond, ◌||◌, List, [], ◌∷◌}
use Rattle.std.proofs.Common.{Option, None, Some, nat_lt, position, take, refl, sym, ap, arith, le-ltb, lt-ltb}
use Rattle.std.specs.List.{list_any, position_from}
use Rattle.std.specs.Map.{lookup}
use Rattle.std.proofs.lemmas.Iterator.Adapters.{position_from-zero}
use Rattle.rc_names.specs.Numbers.{IdentifierId, ScopeId, same_id}
use Rattle.rc_flow.specs.inside.Spread.{is_early}

-- a place that was found is below another; none is
abbrev pub is_below : ℕ → Option ℕ → Bool
is_below size None = false
is_below size (Some place) = nat_lt place size

module _ {X : Type 0} (test : X → Bool) where
  none_below : (xs : List X) (first size : ℕ) → size ≤ first → is_below size (position_from test first xs) ≡ false
  none_below [] first size le = refl
  none_below (x ∷ xs) first size le = by (test x) (none_below xs (first + 1) size (omega arith))
    where
      by : (b : Bool) → is_below size (position_from test (first + 1) xs) ≡ false
          → is_below size (cond b (Some first) (position_from test (first + 1) xs)) ≡ false
      by true later = le-ltb first size le
      by false later = later

  below_from : (xs : List X) (first more : ℕ)
      → is_below (first + more) (position_from test first xs) ≡ list_any test (take more xs)
  below_from [] first zero = refl
  below_from [] first (suc more) = refl
  below_from (x ∷ xs) first zero = none_below (x ∷ xs) first (first + zero) (omega arith)
  below_from (x ∷ xs) first (suc more) = by (test x) (below_from xs (first + 1) more)
    where
      by : (b : Bool) → is_below (first + 1 + more) (position_from test (first + 1) xs) ≡ list_any test (take more xs)
          → is_below (first + suc more) (cond b (Some first) (position_from test (first + 1) xs))
          ≡ (b || list_any test (take more xs))
      by true later = lt-ltb first (first + suc more) (omega arith)
      by false later =
          (let same : first + suc more ≡ first + 1 + more = omega arith in
          ap (λ size. is_below size (position_from test (first + 1) xs)) same) ∙ later

  pub early_position : (xs : List X) (size : ℕ) → is_below size (position test xs) ≡ list_any test (take size xs)
  early_position xs size =
      ap (is_below size) (position_from-zero test xs)
      ∙ (let same : size ≡ 0 + size = omega arith in ap (λ n. is_below n (position_from test 0 xs)) same)
      ∙ below_from xs 0 size

-- the answer for a dependency by the size that was noted, and by the place of its name
module _ (names : List IdentifierId) (ends : List (ScopeId × ℕ)) (scope : ScopeId) (id : IdentifierId) (size : ℕ)
    (found : lookup (same_id scope) ends ≡ Some size) where
  stays_by : (place : Option ℕ) → position (same_id id) names ≡ place
      → is_below size place ≡ is_early names id (lookup (same_id scope) ends)
  stays_by place at = ap (is_below size) (sym at) ∙ early_position (same_id id) names size
      ∙ ap (is_early names id) (sym found)

  pub stays_found : (place : ℕ) → position (same_id id) names ≡ Some place
      → nat_lt place size ≡ is_early names id (lookup (same_id scope) ends)
  stays_found place at = stays_by (Some place) at

  pub stays_missing : position (same_id id) names ≡ None → false ≡ is_early names id (lookup (same_id scope) ends)
  stays_missing at = stays_by None at
