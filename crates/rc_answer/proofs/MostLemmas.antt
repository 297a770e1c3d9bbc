-- The greatest of two lists one after the other.
use Rattle.std.proofs.Common.{◌≡◌, ℕ, max, List, [], ◌∷◌, ◌++◌, arith}
use denote.Param.Weighed.{most}

pub most_append : {X : Type 0} (size : X → ℕ) (xs ys : List X)
    → most size (xs ++ ys) ≡ max (most size xs) (most size ys)
most_append size [] ys = omega arith
most_append size (x ∷ xs) ys = omega (arith, most_append size xs ys)
