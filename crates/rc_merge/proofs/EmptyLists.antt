-- What a call tells that asks whether a list is empty.
use Rattle.std.proofs.Common.{◌≡◌, ◌↔◌, List, [], ◌∷◌, Bool, true, false, IsTrue, refl}
use Rattle.rc_merge.specs.Joining.{is_empty}

pub empty_if : {X : Type 0} (xs : List X) (empty : Bool) → (IsTrue empty ↔ (xs ≡ [])) → empty ≡ is_empty xs
empty_if [] empty h = h.1 refl
empty_if (x ∷ xs) true h = let e : x ∷ xs ≡ [] = h.0 refl in let bad : ⊥ = cc in absurd bad
empty_if (x ∷ xs) false h = refl
