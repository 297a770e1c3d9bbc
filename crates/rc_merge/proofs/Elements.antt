-- The elements of lists, by recursion on the list, and what tests of lists say of them.
use Rattle.std.proofs.Common.{◌≡◌, zero, suc, List, [], ◌∷◌, ◌++◌, Bool, true, false, refl, subst, map}
use Rattle.std.proofs.Common.{arith, inl, inr, Contains}
use Rattle.std.specs.Prelude.{◌⊎◌, if◌then◌else◌}
use Rattle.std.specs.List.{filter, list_any, list_all}
use Rattle.std.proofs.lemmas.Bool.{and_from, and_parts, or_cases, or_left, or_right}

-- an element of a list
pub data In {A : Type 0} : A → List A → Type 0 where
  here : {x : A} {xs : List A} → In x (x ∷ xs)
  there : {x y : A} {xs : List A} → In x xs → In x (y ∷ xs)

pub contains_in : {A : Type 0} (xs : List A) (x : A) → In x xs → Contains xs x
contains_in [] x m = elim m [ ]
contains_in (y ∷ xs) _ here = (0, omega arith, refl)
contains_in (y ∷ xs) x (there m) = let t = contains_in xs x m in (suc t.0, omega arith, t.2)

pub in_contains : {A : Type 0} (xs : List A) (x : A) → Contains xs x → In x xs
in_contains [] x m = absurd (omega arith)
in_contains (y ∷ xs) x (zero, less, e) = subst (λ z. In z (y ∷ xs)) e here
in_contains (y ∷ xs) x (suc k, less, e) = there (in_contains xs x (k, omega arith, e))

-- an element of one of two lists is one of both, and the converse
pub in_left : {A : Type 0} (xs ys : List A) (x : A) → In x xs → In x (xs ++ ys)
in_left [] ys x m = elim m [ ]
in_left (y ∷ xs) ys _ here = here
in_left (y ∷ xs) ys x (there m) = there (in_left xs ys x m)

pub in_right : {A : Type 0} (xs ys : List A) (x : A) → In x ys → In x (xs ++ ys)
in_right [] ys x m = m
in_right (y ∷ xs) ys x m = there (in_right xs ys x m)

pub in_append : {A : Type 0} (xs ys : List A) (x : A) → In x (xs ++ ys) → In x xs ⊎ In x ys
in_append [] ys x m = inr m
in_append (y ∷ xs) ys _ here = inl here
in_append (y ∷ xs) ys x (there m) = elim (in_append xs ys x m) [ inl k ↦ inl (there k) | inr k ↦ inr k ]

-- an element of a mapped list is that of an element
pub in_map : {A B : Type 0} (f : A → B) (xs : List A) (y : B) → In y (map f xs) → (x : A) × In x xs × (f x ≡ y)
in_map f [] y m = elim m [ ]
in_map f (x ∷ xs) _ here = (x, here, refl)
in_map f (x ∷ xs) y (there m) = let t = in_map f xs y m in (t.0, there t.1, t.2)

-- a test of some element, and one of all
pub in_any : {A : Type 0} (test : A → Bool) (xs : List A) → list_any test xs ≡ true
    → (x : A) × In x xs × (test x ≡ true)
in_any test [] e = absurd (let bad : ⊥ = cc in bad)
in_any test (x ∷ xs) e = elim (or_cases (test x) (list_any test xs) e) [
  | inl p ↦ (x, here, p)
  | inr q ↦ let t = in_any test xs q in (t.0, there t.1, t.2)
]

pub any_in : {A : Type 0} (test : A → Bool) (xs : List A) (x : A) → In x xs → test x ≡ true
    → list_any test xs ≡ true
any_in test [] x m e = elim m [ ]
any_in test (x ∷ xs) _ here e = or_left (test x) (list_any test xs) e
any_in test (y ∷ xs) x (there m) e = or_right (test y) (list_any test xs) (any_in test xs x m e)

pub in_all : {A : Type 0} (test : A → Bool) (xs : List A) → list_all test xs ≡ true
    → (x : A) → In x xs → test x ≡ true
in_all test [] e x m = elim m [ ]
in_all test (x ∷ xs) e _ here = (and_parts (test x) (list_all test xs) e).0
in_all test (y ∷ xs) e x (there m) = in_all test xs (and_parts (test y) (list_all test xs) e).1 x m

pub all_in : {A : Type 0} (test : A → Bool) (xs : List A) → ((x : A) → In x xs → test x ≡ true)
    → list_all test xs ≡ true
all_in test [] each = refl
all_in test (x ∷ xs) each =
    and_from (test x) (list_all test xs) (each x here) (all_in test xs (λ y m. each y (there m)))

filter_step : {A : Type 0} (keep : Bool) (x y : A) (xs fs : List A) → In y (if keep then x ∷ fs else fs)
    → (In y fs → In y xs) → In y (x ∷ xs)
filter_step true x _ xs fs here f = here
filter_step true x y xs fs (there n) f = there (f n)
filter_step false x y xs fs n f = there (f n)

-- what is left of a list was there before
pub in_filter : {A : Type 0} (test : A → Bool) (xs : List A) (y : A) → In y (filter test xs) → In y xs
in_filter test [] y m = m
in_filter test (x ∷ xs) y m = filter_step (test x) x y xs (filter test xs) m (in_filter test xs y)

-- each element of the first list is one of the second
abbrev pub Subset : {A : Type 0} → List A → List A → Type 0
Subset {A} a b = (x : A) → In x a → In x b
