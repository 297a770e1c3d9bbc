-- Names by rising number: a list of them that rises is the only one.
use Rattle.std.proofs.Common.{◌≡◌, ◌∙◌, ◌⊎◌, ◌<◌, ℕ, suc, Bool, true, false, List, [], ◌∷◌, if◌then◌else◌}
use Rattle.std.proofs.Common.{ap, arith, get_or, inl, inr, length, refl, subst, sym}
use Rattle.std.proofs.lemmas.Bool.{ltb-true}
use Rattle.std.proofs.lemmas.Bool.Decides.{nat_tests}
use Rattle.std.proofs.lemmas.List.Kept.{AllPairs-from_increasing}
use Rattle.std.proofs.lemmas.Map.Keys.{IsStrictlyIncreasing-from_sorted}
use Rattle.std.specs.Cmp.{nat_cmp_is}
use Rattle.std.specs.List.{AllByRecursion, AllPairs}
use Rattle.std.specs.List.Sorted.{IsStrictlySortedBy}
use Rattle.std.specs.Ordering.{nat_cmp}
use Rattle.std.specs.Prelude.{nat_lt}
use Rattle.std.specs.declared.cmp.Ordering.TheVariants.{Less}
use Rattle.rc_merge.proofs.Elements.{In, Subset, contains_in, here, in_contains, there}
use Rattle.rc_merge.specs.inside.Told.{by_number, with_number}
use Rattle.rc_names.proofs.NumbersLemmas.{same_id-eq}
use Rattle.rc_names.specs.Numbers.{DeclarationId, same_id}
use Rattle.rc_order.specs.Order.{AreInOrder, numbers_of}

-- each of the names has a number above that of this one
abbrev Above : DeclarationId → List DeclarationId → Type 0
Above name names = (other : DeclarationId) → In other names → name.0 < other.0

abbrev Rising : List DeclarationId → Type 0
Rising [] = Unit {0}
Rising (name ∷ names) = Above name names × Rising names

-- where a name is put among others
data Placed (name : DeclarationId) : List DeclarationId → List DeclarationId → Type 0 where
  Alone : Placed name [] (name ∷ [])
  Before : (first : DeclarationId) (rest : List DeclarationId) → name.0 < first.0
      → Placed name (first ∷ rest) (name ∷ first ∷ rest)
  There : (rest : List DeclarationId) → Placed name (name ∷ rest) (name ∷ rest)
  After : (first : DeclarationId) (rest more : List DeclarationId) → first.0 < name.0 → Placed name rest more
      → Placed name (first ∷ rest) (first ∷ more)

placed : (name : DeclarationId) (names : List DeclarationId) → Placed name names (with_number name names)
placed name [] = Alone
placed name (first ∷ rest) = by (nat_lt name.0 first.0) (same_id name first) refl refl (placed name rest)
  where
    by : (less same : Bool) → nat_lt name.0 first.0 ≡ less → same_id name first ≡ same
        → Placed name rest (with_number name rest)
        → Placed name (first ∷ rest) (if less then name ∷ first ∷ rest
        else (if same then first ∷ rest else first ∷ with_number name rest))
    by true same below is later = Before first rest (ltb-true name.0 first.0 below)
    by false true below is later =
        subst (λ n. Placed name (n ∷ rest) (n ∷ rest)) (same_id-eq name first is) (There rest)
    by false false below is later =
        let above : first.0 < name.0 = grind (arith, nat_tests) in After first rest (with_number name rest) above later

in_placed : (name : DeclarationId) (names all : List DeclarationId) → Placed name names all → (other : DeclarationId)
    → In other all → (other ≡ name) ⊎ In other names
in_placed name _ _ Alone _ here = inl refl
in_placed name _ _ Alone other (there m) = elim m [ ]
in_placed name _ _ (Before first rest less) _ here = inl refl
in_placed name _ _ (Before first rest less) other (there m) = inr m
in_placed name _ _ (There rest) other m = inr m
in_placed name _ _ (After first rest more less later) _ here = inr here
in_placed name _ _ (After first rest more less later) other (there m) =
    elim (in_placed name rest more later other m) [ inl e ↦ inl e | inr k ↦ inr (there k) ]

own_placed : (name : DeclarationId) (names all : List DeclarationId) → Placed name names all → In name all
own_placed name _ _ Alone = here
own_placed name _ _ (Before first rest less) = here
own_placed name _ _ (There rest) = here
own_placed name _ _ (After first rest more less later) = there (own_placed name rest more later)

others_placed : (name : DeclarationId) (names all : List DeclarationId) → Placed name names all
    → (other : DeclarationId) → In other names → In other all
others_placed name _ _ Alone other m = elim m [ ]
others_placed name _ _ (Before first rest less) other m = there m
others_placed name _ _ (There rest) other m = m
others_placed name _ _ (After first rest more less later) _ here = here
others_placed name _ _ (After first rest more less later) other (there m) =
    there (others_placed name rest more later other m)

rising_placed : (name : DeclarationId) (names all : List DeclarationId) → Placed name names all → Rising names
    → Rising all
rising_placed name _ _ Alone rising = (λ other m. elim m [ ], tt)
rising_placed name _ _ (Before first rest less) rising = (above, rising)
  where
    above : Above name (first ∷ rest)
    above _ here = less
    above other (there m) = let more = rising.0 other m in omega (arith, less, more)
rising_placed name _ _ (There rest) rising = rising
rising_placed name _ _ (After first rest more less later) rising =
    (above, rising_placed name rest more later rising.1)
  where
    above : Above first more
    above other m = elim (in_placed name rest more later other m) [
      | inl e ↦ subst (λ (n : DeclarationId). first.0 < n.0) (sym e) less
      | inr k ↦ rising.0 other k
    ]

rising_by_number : (names : List DeclarationId) → Rising (by_number names)
rising_by_number [] = tt
rising_by_number (name ∷ names) =
    rising_placed name (by_number names) (with_number name (by_number names)) (placed name (by_number names))
    (rising_by_number names)

same_by_number : (names : List DeclarationId) → Subset (by_number names) names × Subset names (by_number names)
same_by_number [] = (λ other m. m, λ other m. m)
same_by_number (name ∷ names) =
    let at = placed name (by_number names) in
    let rest = same_by_number names in
    let all = with_number name (by_number names) in (
      λ other m. elim (in_placed name (by_number names) all at other m) [
        | inl e ↦ subst (λ n. In n (name ∷ names)) (sym e) here
        | inr k ↦ there (rest.0 other k)
      ],
      back at rest.1,
    )
  where
    back : Placed name (by_number names) (with_number name (by_number names)) → Subset names (by_number names)
        → Subset (name ∷ names) (with_number name (by_number names))
    back at rest _ here = own_placed name (by_number names) (with_number name (by_number names)) at
    back at rest other (there m) =
        others_placed name (by_number names) (with_number name (by_number names)) at other (rest other m)

-- two lists that rise with the same names are one

first_or : (x y : DeclarationId) (ys : List DeclarationId) → In x (y ∷ ys) → (x ≡ y) ⊎ In x ys
first_or _ y ys here = inl refl
first_or x y ys (there m) = inr m

first_same : (x y : DeclarationId) (xs ys : List DeclarationId) → Rising (x ∷ xs) → Rising (y ∷ ys)
    → In x (y ∷ ys) → In y (x ∷ xs) → x ≡ y
first_same x y xs ys r s m k = elim (first_or x y ys m) [
  | inl e ↦ e
  | inr later ↦ elim (first_or y x xs k) [
    | inl e ↦ sym e
    | inr other ↦ let a = s.0 x later in let b = r.0 y other in absurd (omega (arith, a, b))
  ]
]

-- names after the first one, in a list with the same first name
rest_in : (x y : DeclarationId) (xs ys : List DeclarationId) → x ≡ y → Rising (x ∷ xs) → Subset (x ∷ xs) (y ∷ ys)
    → Subset xs ys
rest_in x y xs ys same r f other m = elim (first_or other y ys (f other (there m))) [
  | inl e ↦
      let above = r.0 other m in
      let number = ap (λ (name : DeclarationId). name.0) (same ∙ sym e) in
      absurd (omega (arith, above, number))
  | inr k ↦ k
]

one_rising : (a b : List DeclarationId) → Rising a → Rising b → Subset a b → Subset b a → a ≡ b
one_rising [] [] r s f g = refl
one_rising [] (y ∷ ys) r s f g = elim (g y here) [ ]
one_rising (x ∷ xs) [] r s f g = elim (f x here) [ ]
one_rising (x ∷ xs) (y ∷ ys) r s f g =
    let same = first_same x y xs ys r s (f x here) (g y here) in
    let rest = one_rising xs ys r.1 s.1 (rest_in x y xs ys same r f) (rest_in y x ys xs (sym same) s g) in
    λ i. same i ∷ rest i

-- lists that rise, by their numbers

above_from : (name : DeclarationId) (names : List DeclarationId)
    → ((k d : ℕ) → k < length (numbers_of names) → name.0 < get_or (numbers_of names) k d) → Above name names
above_from name [] each other m = elim m [ ]
above_from name (first ∷ rest) each _ here = each 0 0 (omega arith)
above_from name (first ∷ rest) each other (there m) =
    above_from name rest (λ k d below. each (suc k) d (omega (arith, below))) other m

rising_from : (names : List DeclarationId) → AllPairs (λ (a b : ℕ). a < b) (numbers_of names) → Rising names
rising_from [] pairs = tt
rising_from (name ∷ names) pairs = (
  above_from name names (λ k d below. pairs 0 (suc k) d (omega arith) (omega (arith, below))),
  rising_from names (λ i j d less below. pairs (suc i) (suc j) d (omega (arith, less)) (omega (arith, below))),
)

sorted_above : (name : DeclarationId) (names : List DeclarationId) → Above name names
    → AllByRecursion (λ number. nat_cmp name.0 number ≡ Less) (numbers_of names)
sorted_above name [] above = tt
sorted_above name (first ∷ rest) above = (
  sym (nat_cmp_is name.0 first.0 Less (above first here)),
  sorted_above name rest (λ other m. above other (there m)),
)

sorted_from : (names : List DeclarationId) → Rising names → IsStrictlySortedBy nat_cmp (numbers_of names)
unfolding IsStrictlySortedBy
sorted_from [] rising = tt
sorted_from (name ∷ names) rising = (sorted_above name names rising.0, sorted_from names rising.1)

pub in_order_by_number : (names : List DeclarationId) → AreInOrder names (by_number names)
in_order_by_number names =
    let same = same_by_number names in
    record {
      rising = IsStrictlyIncreasing-from_sorted (numbers_of (by_number names))
          (sorted_from (by_number names) (rising_by_number names));
      same = λ name. (
        λ m. contains_in names name (same.0 name (in_contains (by_number names) name m)),
        λ m. contains_in (by_number names) name (same.1 name (in_contains names name m)),
      );
    }

pub only_by_number : (names ordered : List DeclarationId) → AreInOrder names ordered → ordered ≡ by_number names
only_by_number names ordered is =
    let same = same_by_number names in
    one_rising ordered (by_number names) (rising_from ordered (AllPairs-from_increasing (numbers_of ordered) is.rising))
    (rising_by_number names)
    (λ name m. same.1 name (in_contains names name ((is.same name).0 (contains_in ordered name m))))
    (λ name m. in_contains ordered name ((is.same name).1 (contains_in names name (same.0 name m))))
