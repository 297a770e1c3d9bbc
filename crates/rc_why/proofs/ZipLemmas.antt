-- Lists whose entries are related one by one.
use Rattle.std.proofs.Common.{List, [], ◌∷◌, All, Contains, arith, refl}
use Rattle.std.proofs.lemmas.List.Elements.{All-cons, All-nil, All-weaker, Contains-append_right}
use Rattle.std.specs.List.{AllZip}

module _ {X Y : Type 0} (R : X → Y → Type 0) where
  -- an entry of the first list is related to that entry of the second
  abbrev pub HasRelated : List X → Y → Type 0
  HasRelated xs y = (x : X) × Contains xs x × R x y

  later : (x : X) (xs : List X) (y : Y) → HasRelated xs y → HasRelated (x ∷ xs) y
  later x xs y found = (found.0, Contains-append_right (x ∷ []) xs found.0 found.1, found.2)

  pub each_related : (xs : List X) (ys : List Y) → AllZip R xs ys → All (HasRelated xs) ys
  each_related [] [] zip = All-nil (HasRelated [])
  each_related [] (y ∷ ys) zip = absurd zip
  each_related (x ∷ xs) [] zip = absurd zip
  each_related (x ∷ xs) (y ∷ ys) zip = All-cons (HasRelated (x ∷ xs)) y ys (x, (0, omega arith, refl), zip.0)
      (All-weaker (HasRelated xs) (HasRelated (x ∷ xs)) (later x xs) ys (each_related xs ys zip.1))
