-- Lists that are put one after the other, and what is at their places.
use Rattle.std.proofs.Common.{◌≡◌, ◌∙◌, ◌<◌, ◌+◌, ℕ, suc, List, ◌∷◌, ◌++◌, Some, slice_get, inl, inr, arith, add-zero}
use Rattle.std.proofs.Common.{append_assoc, refl, sym, ap}
use Rattle.std.proofs.lemmas.Bool.{cases_lt}

module _ {X : Type 0} where
  -- the entries of one part are added, and then those of another
  pub added : (old middle new first second whole : List X) → middle ≡ old ++ first → whole ≡ first ++ second
      → new ≡ middle ++ second → new ≡ old ++ whole
  added old middle new first second whole one same other =
      other ∙ ap (λ found. found ++ second) one ∙ append_assoc old first second ∙ ap (λ found. old ++ found) (sym same)

  -- the same of three parts, and of four
  pub added_three : (old one two new first second third whole : List X) → one ≡ old ++ first → two ≡ one ++ second
      → whole ≡ first ++ (second ++ third) → new ≡ two ++ third → new ≡ old ++ whole
  added_three old one two new first second third whole a b same c =
      added old one new first (second ++ third) whole a same
      (added one two new second third (second ++ third) b refl c)

  pub added_four : (old one two three new first second third fourth whole : List X) → one ≡ old ++ first
      → two ≡ one ++ second → three ≡ two ++ third → whole ≡ first ++ (second ++ (third ++ fourth))
      → new ≡ three ++ fourth → new ≡ old ++ whole
  added_four old one two three new first second third fourth whole a b c same d =
      added old one new first (second ++ (third ++ fourth)) whole a same
      (added_three one two three new second third fourth (second ++ (third ++ fourth)) b c refl d)

pub some_same : {X : Type 0} {x y : X} → Some x ≡ Some y → x ≡ y
some_same e = cc

-- a place before the next one is before this one, or is this one
pub by_place : {A : Type 0} {j : ℕ} (p k : ℕ) → p < j → j ≡ k + 1 → (p < k → A) → (p ≡ k → A) → A
by_place p k below next before here = elim (cases_lt p k) [ inl lt ↦ before lt | inr ge ↦ here (omega arith) ]

module _ {X : Type 0} (all : List X) where
  -- a place has one entry
  pub one_at : {p k : ℕ} {x y : X} → p ≡ k → slice_get all p ≡ Some x → slice_get all k ≡ Some y → x ≡ y
  one_at e f g = some_same (sym f ∙ ap (slice_get all) e ∙ g)

  -- from that place on comes the rest
  abbrev pub StandsAt : ℕ → List X → Type 0
  StandsAt k rest = (j : ℕ) → slice_get all (k + j) ≡ slice_get rest j

  pub first_at : (k : ℕ) (x : X) (xs : List X) → StandsAt k (x ∷ xs) → slice_get all k ≡ Some x
  first_at k x xs stands = ap (slice_get all) (sym (add-zero k)) ∙ stands 0

  pub rest_at : (k : ℕ) (x : X) (xs : List X) → StandsAt k (x ∷ xs) → StandsAt (k + 1) xs
  rest_at k x xs stands j =
      (let place : k + 1 + j ≡ k + suc j = omega arith in ap (slice_get all) place) ∙ stands (suc j)

  pub stands_whole : StandsAt 0 all
  stands_whole j = let e : 0 + j ≡ j = omega arith in ap (slice_get all) e
