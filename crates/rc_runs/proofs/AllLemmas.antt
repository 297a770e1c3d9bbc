-- If all elements of a list that is made of parts have a property, so have all elements of each part.
use Rattle.std.proofs.Common.{◌≡◌, ℕ, zero, suc, ◌<◌, ◌+◌, List, [], ◌∷◌, ◌++◌, length, get_or, subst, arith}
use Rattle.std.proofs.Common.{length-append}
use Rattle.std.proofs.Math.ListN.{get_or-append}
use Rattle.std.proofs.lemmas.List.{get_or-append-add}
use Rattle.std.specs.List.{All, flat_map}

module _ {X : Type 0} (P : X → Type 0) where
  pub All-left : (xs ys : List X) → All P (xs ++ ys) → All P xs
  All-left xs ys all = λ k d below. subst P (get_or-append xs ys d k below)
      (all k d (omega (arith, length-append xs ys)))

  pub All-right : (xs ys : List X) → All P (xs ++ ys) → All P ys
  All-right xs ys all =
      λ k d below. subst P (get_or-append-add xs ys k d) (all (length xs + k) d (omega (arith, length-append xs ys)))

-- if all elements that are made from a list have a property, so have those made from each of its elements
pub All-flat_map : {X Y : Type 0} (P : Y → Type 0) (f : X → List Y) (xs : List X) → All P (flat_map f xs)
    → (i : ℕ) (x : X) → i < length xs → get_or xs i x ≡ x → All P (f x)
All-flat_map P f [] all i x below is = absurd (let no : ⊥ = omega arith in no)
All-flat_map P f (y ∷ ys) all zero x below is = subst (λ z. All P (f z)) is (All-left P (f y) (flat_map f ys) all)
All-flat_map P f (y ∷ ys) all (suc i) x below is =
    All-flat_map P f ys (All-right P (f y) (flat_map f ys) all) i x (omega arith) is
