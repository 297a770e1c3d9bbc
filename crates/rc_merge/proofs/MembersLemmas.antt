-- Lists with the same members, by a test for the same member.
use Rattle.std.proofs.Common.{◌≡◌, ◌∙◌, Bool, true, false, List, [], ◌∷◌, ap, inl, inr, refl, sym}
use Rattle.std.proofs.lemmas.Bool.{and_parts, or_cases}
use Rattle.std.proofs.lemmas.Cmp.{alike_right}
use Rattle.std.proofs.lemmas.List.Folds.{Any-from_list_any, list_any-from_Any}
use Rattle.std.proofs.lemmas.List.Kept.{Any-dedup, Contains-from_dedup}
use Rattle.std.proofs.lemmas.Map.Keys.{sorted_head, sorted_tail}
use Rattle.std.proofs.lemmas.Map.Steps.{list_any_congr}
use Rattle.std.specs.Cmp.{Equal-is, IsEquivalence, IsTotalOrder}
use Rattle.std.specs.Cmp.Lexicographic.{pointwise}
use Rattle.std.specs.List.{AllByRecursion, dedup, list_all, list_any}
use Rattle.std.specs.List.Sorted.{IsStrictlySortedBy}
use Rattle.std.specs.Ordering.{eq_by_cmp, ordering_reverse}
use Rattle.std.specs.Prelude.{◌||◌, ◌&&◌}
use Rattle.std.specs.declared.cmp.Ordering.{Ordering}
use Rattle.std.specs.declared.cmp.Ordering.TheVariants.{Less, Equal, Greater}

module _ {K : Type 0} {E : K → K → Bool} (e : IsEquivalence E) where
  -- the list has a member that is the same
  abbrev pub Has : List K → K → Type 0
  Has xs x = list_any (E x) xs ≡ true

  -- each member of the first is one of the second
  abbrev pub IsWithin : List K → List K → Type 0
  IsWithin xs ys = (x : K) → Has xs x → Has ys x

  pub within_from : (xs ys : List K) → list_all (λ x. list_any (E x) ys) xs ≡ true → IsWithin xs ys
  within_from [] ys all x has = absurd (let bad : ⊥ = cc in bad)
  within_from (z ∷ zs) ys all x has =
      let parts = and_parts (list_any (E z) ys) (list_all (λ x. list_any (E x) ys) zs) all in
      elim (or_cases (E x z) (list_any (E x) zs) has) [
        | inl same ↦ list_any_congr e x z ys same ∙ parts.0
        | inr later ↦ within_from zs ys parts.1 x later
      ]

  has_first : (x : K) (xs : List K) → Has (x ∷ xs) x
  has_first x xs = ap (λ b. b || list_any (E x) xs) (e.refl x)

  or_later : (a b : Bool) → b ≡ true → (a || b) ≡ true
  or_later true b is = refl
  or_later false b is = is

  has_later : (y : K) (ys : List K) (x : K) → Has ys x → Has (y ∷ ys) x
  has_later y ys x has = or_later (E x y) (list_any (E x) ys) has

  pub within_to : (xs ys : List K) → IsWithin xs ys → list_all (λ x. list_any (E x) ys) xs ≡ true
  within_to [] ys within = refl
  within_to (z ∷ zs) ys within =
      λ i. within z (has_first z zs) i && within_to zs ys (λ x has. within x (has_later z zs x has)) i

  pub within_from_dedup : (xs : List K) → IsWithin (dedup E xs) xs
  within_from_dedup xs x has =
      let found = Any-from_list_any (E x) (dedup E xs) has in
      let kept = Contains-from_dedup E xs found.1 (found.0, found.2, found.3) in
      list_any-from_Any (E x) xs (kept.0, found.1, kept.1, kept.2, found.4)

  pub within_dedup : (xs : List K) → IsWithin xs (dedup E xs)
  within_dedup xs x has =
      let found = Any-from_list_any (E x) xs has in
      let kept = Any-dedup e xs found.1 (found.0, found.2, found.3) in
      list_any-from_Any (E x) (dedup E xs)
      (kept.0, kept.1, kept.2, kept.3, e.congr x found.1 kept.1 found.4 ∙ kept.4)

  pub within_pointwise : (xs ys : List K) → pointwise E xs ys ≡ true → IsWithin xs ys
  within_pointwise [] [] same x has = has
  within_pointwise [] (y ∷ ys) same x has = absurd (let bad : ⊥ = cc in bad)
  within_pointwise (z ∷ zs) [] same x has = absurd (let bad : ⊥ = cc in bad)
  within_pointwise (z ∷ zs) (y ∷ ys) same x has =
      let parts = and_parts (E z y) (pointwise E zs ys) same in
      elim (or_cases (E x z) (list_any (E x) zs) has) [
        | inl first ↦ ap (λ b. b || list_any (E x) ys) (e.congr x z y first ∙ parts.0)
        | inr later ↦ has_later y ys x (within_pointwise zs ys parts.1 x later)
      ]

  module _ {R : K → K → Ordering} (o : IsTotalOrder R) (ties : (x y : K) → E x y ≡ eq_by_cmp R x y) where
    tied : (x y : K) → E x y ≡ true → R x y ≡ Equal
    tied x y same = (Equal-is (R x y)).0 (sym (ties x y) ∙ same)

    -- a key that is below each of a list is below what the list has
    below : (x : K) (xs : List K) → AllByRecursion (λ y. R x y ≡ Less) xs → (y : K) → Has xs y → R x y ≡ Less
    below x [] all y has = absurd (let bad : ⊥ = cc in bad)
    below x (z ∷ zs) all y has = elim (or_cases (E y z) (list_any (E y) zs) has) [
      | inl same ↦ alike_right o y z x (tied y z same) ∙ all.0
      | inr later ↦ below x zs all.1 y later
    ]

    not_both : (x y : K) → R x y ≡ Less → R y x ≡ Less → ⊥
    not_both x y less back = let bad : Less ≡ Greater = sym less ∙ o.antisymm x y ∙ ap ordering_reverse back in cc

    module _ (x : K) (xs : List K) (y : K) (ys : List K) (up : IsStrictlySortedBy R (x ∷ xs))
        (forth : IsWithin (x ∷ xs) (y ∷ ys)) where
      same_head : IsStrictlySortedBy R (y ∷ ys) → IsWithin (y ∷ ys) (x ∷ xs) → E x y ≡ true
      same_head other back = elim (or_cases (E x y) (list_any (E x) ys) (forth x (has_first x xs))) [
        | inl same ↦ same
        | inr later ↦ elim (or_cases (E y x) (list_any (E y) xs) (back y (has_first y ys))) [
          | inl same ↦ e.symm x y ∙ same
          | inr also ↦ absurd (not_both y x (below y ys (sorted_head R y ys other) x later)
              (below x xs (sorted_head R x xs up) y also))
        ]
      ]

      within_tail : E x y ≡ true → IsWithin xs ys
      within_tail same q has =
          elim (or_cases (E q y) (list_any (E q) ys) (forth q (has_later x xs q has))) [
            | inl first ↦ absurd (
                let less : R x q ≡ Less = below x xs (sorted_head R x xs up) q has in
                let equal : R x q ≡ Equal = alike_right o q y x (tied q y first) ∙ tied x y same in
                let bad : ⊥ = cc in bad)
            | inr later ↦ later
          ]

    -- lists in order that have the same members, each once, are the same
    pub same_in_order : (xs ys : List K) → IsStrictlySortedBy R xs → IsStrictlySortedBy R ys
        → IsWithin xs ys → IsWithin ys xs → pointwise E xs ys ≡ true
    same_in_order [] [] up other forth back = refl
    same_in_order [] (y ∷ ys) up other forth back =
        absurd (let has = back y (has_first y ys) in let bad : ⊥ = cc in bad)
    same_in_order (x ∷ xs) [] up other forth back =
        absurd (let has = forth x (has_first x xs) in let bad : ⊥ = cc in bad)
    same_in_order (x ∷ xs) (y ∷ ys) up other forth back =
        let same : E x y ≡ true = same_head x xs y ys up forth other back in
        let rest : pointwise E xs ys ≡ true =
        same_in_order xs ys (sorted_tail R x xs up) (sorted_tail R y ys other)
        (within_tail x xs y ys up forth same)
        (within_tail y ys x xs other back (e.symm y x ∙ same)) in
        λ i. same i && rest i
