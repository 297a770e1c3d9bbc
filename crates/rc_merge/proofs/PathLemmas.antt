-- Comparing two lists from a place on.
use Rattle.std.proofs.Common.{◌≡◌, ◌∙◌, ◌+◌, ◌<◌, ◌≤◌, ℕ, true, false, List, [], ◌∷◌, add-one, ap, arith, length, refl, sym}
use Rattle.std.proofs.Math.ListN.{drop, drop_of_length-le}
use Rattle.std.proofs.Math.Seq.{drop-cons}
use Rattle.std.proofs.lemmas.List.{length-drop}
use Rattle.std.specs.Cmp.Lexicographic.{slice_cmp}
use Rattle.std.specs.Ordering.{is_ne, ordering_then}
use Rattle.std.specs.Prelude.{slice_index_or}
use Rattle.std.specs.declared.cmp.Ordering.{Ordering}
use Rattle.std.specs.declared.cmp.Ordering.TheVariants.{Less, Equal, Greater}

other_decides : (order rest : Ordering) → is_ne order ≡ true → order ≡ ordering_then order rest
other_decides Less rest e = refl
other_decides Equal rest e = cc
other_decides Greater rest e = refl

tied_goes_on : (order rest : Ordering) → is_ne order ≡ false → ordering_then order rest ≡ rest
tied_goes_on Less rest e = cc
tied_goes_on Equal rest e = refl
tied_goes_on Greater rest e = cc

module _ {A : Type 0} (R : A → A → Ordering) where
  longer : (xs ys : List A) → ys ≡ [] → 0 < length xs → slice_cmp R xs ys ≡ Greater
  longer [] ys e h = absurd (omega arith)
  longer (x ∷ xs) ys e h = ap (slice_cmp R (x ∷ xs)) e

  shorter : (xs ys : List A) → xs ≡ [] → 0 < length ys → slice_cmp R xs ys ≡ Less
  shorter xs [] e h = absurd (omega arith)
  shorter xs (y ∷ ys) e h = ap (λ zs. slice_cmp R zs (y ∷ ys)) e

  module _ (a b : List A) (i : ℕ) where
    pub first_longer : i < length a → length b ≤ i → slice_cmp R (drop i a) (drop i b) ≡ Greater
    first_longer h k =
        longer (drop i a) (drop i b) (drop_of_length-le b k) (omega (arith, length-drop i a))

    pub second_longer : length a ≤ i → i < length b → slice_cmp R (drop i a) (drop i b) ≡ Less
    second_longer h k =
        shorter (drop i a) (drop i b) (drop_of_length-le a h) (omega (arith, length-drop i b))

    pub both_end : length a ≤ i → length b ≤ i → slice_cmp R (drop i a) (drop i b) ≡ Equal
    both_end h k = λ j. slice_cmp R (drop_of_length-le a h j) (drop_of_length-le b k j)

    module _ (x y : A) (first : i < length a) (second : i < length b)
        (x_is : x ≡ slice_index_or a i x) (y_is : y ≡ slice_index_or b i y) where
      rest : Ordering
      rest = slice_cmp R (drop (i + 1) a) (drop (i + 1) b)

      at_both : slice_cmp R (drop i a) (drop i b) ≡ ordering_then (R x y) rest
      unfolding rest
      at_both = rw (add-one, drop-cons a i x first, drop-cons b i y second, ← x_is, ← y_is) refl

      pub stops : (order : Ordering) → order ≡ R x y → is_ne order ≡ true
          → order ≡ slice_cmp R (drop i a) (drop i b)
      stops order is other = other_decides order rest other ∙ ap (λ o. ordering_then o rest) is ∙ sym at_both

      pub goes_on : (order : Ordering) → order ≡ R x y → is_ne order ≡ false
          → slice_cmp R (drop (i + 1) a) (drop (i + 1) b) ≡ slice_cmp R (drop i a) (drop i b)
      unfolding rest
      goes_on order is tied =
          sym (at_both ∙ ap (λ o. ordering_then o rest) (sym is) ∙ tied_goes_on order rest tied)
