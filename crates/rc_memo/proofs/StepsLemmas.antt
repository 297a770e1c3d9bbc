-- Steps that are taken for the items of a list, one after the other.
use Rattle.std.proofs.Common.{◌≡◌, ◌∙◌, ◌+◌, ◌<◌, ◌≤◌, ℕ, zero, suc, List, [], ◌∷◌, ◌++◌, ap, arith, get_or, length, refl}
use Rattle.std.proofs.Common.{Err, Ok, OnOk, Result, false, nat_eq, subst, sym, take, true, true≢false}
use Rattle.std.specs.List.{flat_map}
use Rattle.std.proofs.lemmas.List.{flat_map_more, take_more}

take_all : {X : Type 0} (xs : List X) (i : ℕ) → length xs ≤ i → take i xs ≡ xs
take_all [] zero le = refl
take_all [] (suc i) le = refl
take_all (x ∷ xs) zero le = absurd (omega arith)
take_all (x ∷ xs) (suc i) le = ap (λ w. x ∷ w) (take_all xs i (omega arith))

-- all items, once none is left
pub all_taken : {X : Type 0} (P : List X → Type 0) (xs : List X) (i : ℕ) → length xs ≤ i → P (take i xs) → P xs
all_taken P xs i past so_far = subst P (take_all xs i past) so_far

module _ {A S : Type 0} (Does : List A → S → S → Type 0)
    (next : (xs ys : List A) (old mid new : S) → Does xs old mid → Does ys mid new → Does (xs ++ ys) old new) where
  -- one more item
  pub one_more : (xs : List A) (i : ℕ) (d : A) (old mid new : S) → i < length xs → Does (take i xs) old mid
      → Does (get_or xs i d ∷ []) mid new → Does (take (i + 1) xs) old new
  one_more xs i d old mid new below so_far step = subst (λ w. Does w old new) (sym (take_more xs i d below))
      (next (take i xs) (get_or xs i d ∷ []) old mid new so_far step)

  -- what one more item brings
  pub part_more : {X : Type 0} (f : X → List A) (xs : List X) (i : ℕ) (d : X) (old mid new : S) → i < length xs
      → Does (flat_map f (take i xs)) old mid → Does (f (get_or xs i d)) mid new
      → Does (flat_map f (take (i + 1) xs)) old new
  part_more f xs i d old mid new below so_far step = subst (λ w. Does w old new)
      (flat_map_more f [] (take i xs) (get_or xs i d) ∙ ap (flat_map f) (sym (take_more xs i d below)))
      (next (flat_map f (take i xs)) (f (get_or xs i d)) old mid new so_far step)

-- what follows from what a call ensures
pub onward : {A E P Q : Type 0} (r : Result A E) → (P → Q) → OnOk r P → OnOk r Q
onward (Ok a) f p = f p
onward (Err e) f p = p

pub none_left : {X : Type 0} (xs : List X) → true ≡ nat_eq (length xs) 0 → xs ≡ []
none_left [] empty = refl
none_left (x ∷ xs) empty =
    let some : nat_eq (length (x ∷ xs)) 0 ≡ false = grind arith in absurd (true≢false (empty ∙ some))
