-- Some element of a list that is made of parts has a property exactly if some element of a part has it.
use Rattle.std.proofs.Common.{◌≡◌, ◌∙◌, ◌⊎◌, inl, inr, ℕ, zero, suc, ◌+◌, ◌<◌, List, [], ◌∷◌, ◌++◌, length, get_or}
use Rattle.std.proofs.Common.{length-append, arith, refl, sym, subst}
use Rattle.std.proofs.Math.ListN.{get_or-append}
use Rattle.std.proofs.lemmas.List.{get_or-append-add}
use Rattle.std.specs.List.{All, Any, flat_map}

module _ {X : Type 0} (P : X → Type 0) where
  pub Any-left : (xs ys : List X) → Any P xs → Any P (xs ++ ys)
  Any-left xs ys some = (
    some.0,
    some.1,
    omega (arith, length-append xs ys, some.2),
    get_or-append xs ys some.1 some.0 some.2
        ∙ some.3,
    some.4,
  )

  pub Any-right : (xs ys : List X) → Any P ys → Any P (xs ++ ys)
  Any-right xs ys some = (
    length xs + some.0,
    some.1,
    omega (arith, length-append xs ys, some.2),
    get_or-append-add xs ys some.0 some.1
        ∙ some.3,
    some.4,
  )

  -- the only element of a list has it
  pub Any-one : (x : X) → Any P (x ∷ []) → P x
  Any-one x some = by some.0 some.1 some.2 some.3 some.4
    where
      by : (i : ℕ) (y : X) → i < length (x ∷ []) → get_or (x ∷ []) i y ≡ y → P y → P x
      by zero y below is holds = subst P (sym is) holds
      by (suc i) y below is holds = absurd (omega (arith, below))

  -- an element of two lists is one of either
  pub Any-cases : (xs ys : List X) → Any P (xs ++ ys) → Any P xs ⊎ Any P ys
  Any-cases [] ys some = inr some
  Any-cases (x ∷ xs) ys some = by (Any-cases xs ys) some.0 some.1 some.2 some.3 some.4
    where
      behind : Any P xs ⊎ Any P ys → Any P (x ∷ xs) ⊎ Any P ys
      behind (inl here) = inl (Any-right (x ∷ []) xs here)
      behind (inr later) = inr later

      by : (Any P (xs ++ ys) → Any P xs ⊎ Any P ys) → (i : ℕ) (y : X) → i < length (x ∷ (xs ++ ys))
          → get_or (x ∷ (xs ++ ys)) i y ≡ y → P y → Any P (x ∷ xs) ⊎ Any P ys
      by later zero y below is holds = inl (0, y, omega arith, is, holds)
      by later (suc i) y below is holds = behind (later (i, y, omega (arith, below), is, holds))

  -- if some element made from one element has a property, some element made from the list has it
  pub Any-flat_map : {Y : Type 0} (f : Y → List X) (ys : List Y) (i : ℕ) (y : Y) → i < length ys → get_or ys i y ≡ y
      → Any P (f y) → Any P (flat_map f ys)
  Any-flat_map f [] i y below is some = absurd (omega (arith, below))
  Any-flat_map f (z ∷ ys) zero y below is some =
      Any-left (f z) (flat_map f ys) (subst (λ x. Any P (f x)) (sym is) some)
  Any-flat_map f (z ∷ ys) (suc i) y below is some =
      Any-right (f z) (flat_map f ys) (Any-flat_map f ys i y (omega (arith, below)) is some)

-- if some element made from the list has a property, some element made from one of its elements has it
pub Any-made : {X Y : Type 0} (P : X → Type 0) (f : Y → List X) (ys : List Y) → Any P (flat_map f ys)
    → Any (λ y. Any P (f y)) ys
Any-made P f [] some = absurd (omega (arith, some.2))
Any-made P f (y ∷ ys) some = by (Any-made P f ys) (Any-cases P (f y) (flat_map f ys) some)
  where
    by : (Any P (flat_map f ys) → Any (λ z. Any P (f z)) ys) → Any P (f y) ⊎ Any P (flat_map f ys)
        → Any (λ z. Any P (f z)) (y ∷ ys)
    by later (inl here) = (0, y, omega arith, refl, here)
    by later (inr others) = Any-right (λ z. Any P (f z)) (y ∷ []) ys (later others)

-- if all elements have a property, none has one that excludes it
pub none_of : {X : Type 0} (P Q : X → Type 0) → ((x : X) → P x → Q x → ⊥) → (xs : List X) → All P xs → Any Q xs → ⊥
none_of P Q contrary xs all some = contrary some.1 (subst P some.3 (all some.0 some.1 some.2)) some.4
