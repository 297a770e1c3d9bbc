-- Numbers that ascend: two such lists with the same numbers, each as often, are one.
use Rattle.std.proofs.Common.{◌≡◌, ◌∙◌, ◌+◌, ◌<◌, ◌≤◌, ℕ, List, [], ◌∷◌, ap, arith, cond, get_or, inl, inr}
use Rattle.std.proofs.Common.{length, refl, suc, sym}
use Rattle.std.specs.Prelude.{nat_eq}
use Rattle.std.specs.List.{AllByRecursion, sum_by}
use Rattle.std.specs.List.Sorted.{IsNonDecreasing, IsPermutation}
use Rattle.std.proofs.lemmas.Bool.{cases_order, eq-eqb, ne_eqb}
use Rattle.std.proofs.lemmas.List.Sorted.{sum_by-IsPermutation}
use Rattle.std.proofs.lemmas.List.Sums.{sum_by-cons}

-- no number is before a smaller one
abbrev pub IsAscending : List ℕ → Type 0
IsAscending [] = Unit {0}
IsAscending (x ∷ xs) = AllByRecursion (λ y. x ≤ y) xs × IsAscending xs

-- one for this number
abbrev pub once : ℕ → ℕ → ℕ
once k x = cond (nat_eq k x) 1 0

-- how often the number is in a list
abbrev pub times : ℕ → List ℕ → ℕ
times k [] = 0
times k (x ∷ xs) = once k x + times k xs

times_is : (k : ℕ) (xs : List ℕ) → times k xs ≡ sum_by (once k) xs
times_is k [] = refl
times_is k (x ∷ xs) = ap (λ w. once k x + w) (times_is k xs) ∙ sym (sum_by-cons (once k) x xs)

-- another order of a list has each number as often
pub times-permutation : (xs ys : List ℕ) → IsPermutation xs ys → (k : ℕ) → times k ys ≡ times k xs
times-permutation xs ys same k =
    times_is k ys ∙ sum_by-IsPermutation (once k) xs ys same ∙ sym (times_is k xs)

-- a number below all isn't there
none_below : (k : ℕ) (xs : List ℕ) → AllByRecursion (λ y. k < y) xs → times k xs ≡ 0
none_below k [] all = refl
none_below k (x ∷ xs) all =
    let here : once k x ≡ 0 = ap (λ w. cond w 1 0) (ne_eqb k x (λ is. absurd (omega (arith, all.0, is)))) in
    let later = none_below k xs all.1 in
    omega (arith, here, later)

all_above : (k x : ℕ) (xs : List ℕ) → k < x → AllByRecursion (λ y. x ≤ y) xs → AllByRecursion (λ y. k < y) xs
all_above k x [] below all = tt
all_above k x (y ∷ xs) below all = (omega (arith, below, all.0), all_above k x xs below all.1)

-- the first of a list is there
first_there : (x : ℕ) (xs : List ℕ) → times x (x ∷ xs) ≡ 1 + times x xs
first_there x xs = ap (λ w. cond w 1 0 + times x xs) (eq-eqb x x refl)

-- so a list that begins with more than another hasn't the first of that
first_differs : {X : Type 0} (x y : ℕ) (xs ys : List ℕ) → x < y → IsAscending (y ∷ ys)
    → times x (x ∷ xs) ≡ times x (y ∷ ys) → X
first_differs x y xs ys below up same =
    let none = none_below x (y ∷ ys) (below, all_above x y ys below up.0) in
    let some = first_there x xs in
    absurd (omega (arith, none, some, same))

pub same_ascending : (xs ys : List ℕ) → IsAscending xs → IsAscending ys → ((k : ℕ) → times k xs ≡ times k ys) → xs ≡ ys
same_ascending [] [] up up' same = refl
same_ascending [] (y ∷ ys) up up' same =
    let here = same y in
    let some = first_there y ys in
    absurd (omega (arith, here, some))
same_ascending (x ∷ xs) [] up up' same =
    let here = same x in
    let some = first_there x xs in
    absurd (omega (arith, here, some))
same_ascending (x ∷ xs) (y ∷ ys) up up' same = elim (cases_order x y) [
  | inl is ↦
      let later = same_ascending xs ys up.1 up'.1 (λ k.
      let here = same k in
      let once_is : once k x ≡ once k y = ap (once k) is in
      omega (arith, here, once_is)) in
      cc
  | inr p ↦ elim p [
    | inl below ↦ first_differs x y xs ys below up' (same x)
    | inr below ↦ first_differs y x ys xs below up (sym (same y))
  ]
]

-- what the elements at all indices have, all have
all_from : (P : ℕ → Type 0) (xs : List ℕ) → ((j d : ℕ) → j < length xs → P (get_or xs j d)) → AllByRecursion P xs
all_from P [] each = tt
all_from P (x ∷ xs) each =
    (each 0 x (omega arith), all_from P xs (λ j d below. each (suc j) d (omega (arith, below))))

-- what a sort ensures
pub ascending : (xs : List ℕ) → IsNonDecreasing xs → IsAscending xs
ascending [] up = tt
ascending (x ∷ xs) up = (
  all_from (λ y. x ≤ y) xs (λ j d below. up 0 (suc j) d (omega arith) (omega (arith, below))),
  ascending xs (λ i j d order below. up (suc i) (suc j) d (omega (arith, order)) (omega (arith, below))),
)
