-- Whether a scope has an output, and whether one is memoized.
use Rattle.std.proofs.Common.{◌≡◌, ◌∙◌, ◌↔◌, Bool, true, false, IsTrue, List, [], ◌∷◌, ◌++◌, ap, map, not, refl, sym, true≢false}
use Rattle.std.specs.Prelude.{◌||◌}
use Rattle.std.proofs.Math.Bool.{or_assoc}
use Rattle.std.specs.List.{list_any}
use Rattle.rc_escape.specs.Outputs.{has_output}
use Rattle.rc_names.specs.Numbers.{DeclarationId}

module _ {X Y : Type 0} (f : X → DeclarationId) (g : Y → DeclarationId) where
  -- there is an output where the first list has an entry
  pub output_first : (xs : List X) (ys : List Y) (empty : Bool) → (IsTrue empty ↔ (xs ≡ [])) → empty ≡ false
      → not empty ≡ has_output (map f xs ++ map g ys)
  output_first [] ys empty is none = absurd (true≢false (sym (is.1 refl) ∙ none))
  output_first (x ∷ xs) ys empty is none = ap not none

  -- and else where the second one has
  pub output_second : (xs : List X) (ys : List Y) (empty other : Bool) → (IsTrue empty ↔ (xs ≡ []))
      → (IsTrue other ↔ (ys ≡ [])) → empty ≡ true → not other ≡ has_output (map f xs ++ map g ys)
  output_second (x ∷ xs) ys empty other is also none =
      let same : x ∷ xs ≡ [] = is.0 none in absurd (let bad : ⊥ = cc in bad)
  output_second [] [] empty other is also none = ap not (also.1 refl)
  output_second [] (y ∷ ys) empty true is also none =
      let same : y ∷ ys ≡ [] = also.0 refl in absurd (let bad : ⊥ = cc in bad)
  output_second [] (y ∷ ys) empty false is also none = refl

  -- an output passes a test where one of either list does
  any_mapped : (p : DeclarationId → Bool) (ys : List Y) → list_any p (map g ys) ≡ list_any (λ y. p (g y)) ys
  any_mapped p [] = refl
  any_mapped p (y ∷ ys) = ap (λ b. p (g y) || b) (any_mapped p ys)

  any_output : (p : DeclarationId → Bool) (xs : List X) (ys : List Y)
      → list_any p (map f xs ++ map g ys) ≡ (list_any (λ x. p (f x)) xs || list_any (λ y. p (g y)) ys)
  any_output p [] ys = any_mapped p ys
  any_output p (x ∷ xs) ys =
      ap (λ b. p (f x) || b) (any_output p xs ys)
      ∙ sym (or_assoc (p (f x)) (list_any (λ x. p (f x)) xs) (list_any (λ y. p (g y)) ys))

  pub any_first : (p : DeclarationId → Bool) (xs : List X) (ys : List Y) (first : Bool)
      → first ≡ list_any (λ x. p (f x)) xs → first ≡ true → first ≡ list_any p (map f xs ++ map g ys)
  any_first p xs ys first is passes =
      passes ∙ sym (any_output p xs ys ∙ ap (λ b. b || list_any (λ y. p (g y)) ys) (sym is ∙ passes))

  pub any_second : (p : DeclarationId → Bool) (xs : List X) (ys : List Y) (first second : Bool)
      → first ≡ list_any (λ x. p (f x)) xs → second ≡ list_any (λ y. p (g y)) ys → first ≡ false
      → second ≡ list_any p (map f xs ++ map g ys)
  any_second p xs ys first second is also none =
      also ∙ sym (any_output p xs ys ∙ ap (λ b. b || list_any (λ y. p (g y)) ys) (sym is ∙ none))
