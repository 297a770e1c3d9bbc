-- What each entry of a list has, entry by entry.
use Rattle.std.proofs.Common.{◌≡◌, ◌+◌, ◌<◌, ℕ, All, List, get_or, length, map, subst, sym, take}
use Rattle.std.proofs.lemmas.List.{get_or-map, length-map}
use Rattle.std.proofs.lemmas.List.Elements.{All-more}

module _ {X : Type 0} (P : X → Type 0) where
  -- where each entry has it, the one at that place has it
  pub at_place : (xs : List X) (i : ℕ) (x : X) → i < length xs → x ≡ get_or xs i x → All P xs → P x
  at_place xs i x within is all = subst P (sym is) (all i x within)

  -- where each entry before a place has it, and the one there, each up to there has it
  pub one_more : (xs : List X) (i : ℕ) (x : X) → i < length xs → x ≡ get_or xs i x → All P (take i xs) → P x
      → All P (take (i + 1) xs)
  one_more xs i x within is before here = All-more P xs i x within before (subst P is here)

  -- what each of the values of a function has, each entry has by its value
  pub of_map : {Y : Type 0} (f : Y → X) (ys : List Y) → All P (map f ys) → All (λ y. P (f y)) ys
  of_map f ys all k d within =
      subst P (get_or-map f ys k d (f d) within) (all k (f d) (subst (λ n. k < n) (sym (length-map ys f)) within))
