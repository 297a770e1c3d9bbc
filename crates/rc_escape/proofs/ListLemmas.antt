-- The rest of a list from a place on, a list that is pushed to, and names of a list.
use Rattle.std.proofs.Common.{◌≡◌, ◌⊎◌, ◌∙◌, ◌++◌, ◌+◌, inl, inr, ℕ, zero, suc, List, [], ◌∷◌, Option, Some, None}
use Rattle.std.proofs.Common.{◌≤◌, Contains, add-one, ap, arith, drop, length, refl, reverse, subst, sym, take}
use Rattle.std.specs.Prelude.{slice_get}
use Rattle.std.proofs.lemmas.List.{reverse-append}
use Rattle.std.proofs.lemmas.List.Elements.{Contains-append_cases, Contains-append_right, Contains-push_cases}

-- an entry that is pushed is the first from the end
pub reverse-push : {X : Type 0} (old new : List X) (x : X) → new ≡ old ++ x ∷ [] → reverse new ≡ x ∷ reverse old
reverse-push old new x is = ap reverse is ∙ reverse-append old (x ∷ [])

-- the rest from the place of an entry on is that entry and the rest after it
pub drop-at : {X : Type 0} (xs : List X) (i j : ℕ) (x : X) → slice_get xs i ≡ Some x → j ≡ i + 1
    → drop i xs ≡ x ∷ drop j xs
drop-at {X} xs i j x at next = subst (λ k. drop i xs ≡ x ∷ drop k xs) (sym (next ∙ add-one i)) (go xs i at)
  where
    go : (ys : List X) (k : ℕ) → slice_get ys k ≡ Some x → drop k ys ≡ x ∷ drop (suc k) ys
    go [] k g = cc
    go (y ∷ ys) zero g = cc
    go (y ∷ ys) (suc k) g = go ys k g

-- the rest from a place past the end on is empty
pub drop-past : {X : Type 0} (xs : List X) (i : ℕ) → slice_get xs i ≡ None → drop i xs ≡ []
drop-past [] zero h = refl
drop-past [] (suc i) h = refl
drop-past (x ∷ xs) zero h = cc
drop-past (x ∷ xs) (suc i) h = drop-past xs i h

-- the first entries and the next one, and all entries
pub take_next : {X : Type 0} (xs : List X) (i : ℕ) (x : X) → slice_get xs i ≡ Some x
    → take i xs ++ x ∷ [] ≡ take (i + 1) xs
take_next {X} xs i x at = go xs i at ∙ ap (λ w. take w xs) (sym (add-one i))
  where
    go : (ys : List X) (k : ℕ) → slice_get ys k ≡ Some x → take k ys ++ x ∷ [] ≡ take (suc k) ys
    go [] k at = cc
    go (y ∷ ys) zero at = let same : y ≡ x = cc in ap (λ w. w ∷ []) (sym same)
    go (y ∷ ys) (suc k) at = ap (λ w. y ∷ w) (go ys k at)

pub take_all : {X : Type 0} (xs : List X) (i : ℕ) → length xs ≤ i → take i xs ≡ xs
take_all [] zero le = refl
take_all [] (suc i) le = refl
take_all (x ∷ xs) zero le = absurd (omega (arith, le))
take_all (x ∷ xs) (suc i) le = ap (λ w. x ∷ w) (take_all xs i (omega (arith, le)))

-- one option has one value
pub one_value : {X : Type 0} {o : Option X} {a b : X} → o ≡ Some a → o ≡ Some b → b ≡ a
one_value f g = cc

pub Contains-first : {X : Type 0} (x : X) (xs : List X) → Contains (x ∷ xs) x
Contains-first x xs = (0, omega arith, refl)

pub Contains-later : {X : Type 0} (x y : X) (xs : List X) → Contains xs y → Contains (x ∷ xs) y
Contains-later x y xs among = Contains-append_right (x ∷ []) xs y among

pub Contains-cases : {X : Type 0} (x y : X) (xs : List X) → Contains (x ∷ xs) y → (x ≡ y) ⊎ Contains xs y
Contains-cases x y xs among = elim (Contains-append_cases (x ∷ []) xs y among) [
  | inl one ↦ elim (Contains-push_cases [] x y one) [ inl none ↦ absurd (omega (arith, none.1)) | inr same ↦ inl same ]
  | inr later ↦ inr later
]
