-- The elements of a mapped list, of a filtered list, and of a list with distinct keys.
use Rattle.std.proofs.Common.{◌≡◌, ◌<◌, ◌∙◌, ◌⊎◌, inl, inr, ℕ, zero, suc, Bool, true, false, List, [], ◌∷◌, length}
use Rattle.std.proofs.Common.{get_or, map, if◌then◌else◌, arith, refl, sym, ap, subst, Contains}
use Rattle.std.proofs.lemmas.List.Elements.{Contains-append_right}
use Rattle.std.specs.List.{AllByRecursion, IsDistinct, filter}

-- an element is the head or one of the rest
cons_cases : {X : Type 0} (x : X) (xs : List X) (y : X) (place : ℕ) → place < length (x ∷ xs)
    → get_or (x ∷ xs) place y ≡ y → (x ≡ y) ⊎ Contains xs y
cons_cases x xs y zero below here = inl here
cons_cases x xs y (suc place) below here = inr (place, omega arith, here)

-- the converse
head_of : {X : Type 0} (x : X) (xs : List X) → Contains (x ∷ xs) x
head_of x xs = (0, omega arith, refl)

module _ {X Y : Type 0} (f : X → Y) where
  -- a value of a mapped list is that of an element
  pub from_map : (xs : List X) (y : Y) → Contains (map f xs) y → (x : X) × Contains xs x × (f x ≡ y)
  from_map [] y there = absurd (omega (arith, there.1))
  from_map (x ∷ xs) y there = by (from_map xs y) (cons_cases (f x) (map f xs) y there.0 there.1 there.2)
    where
      by : (Contains (map f xs) y → (a : X) × Contains xs a × (f a ≡ y)) → (f x ≡ y) ⊎ Contains (map f xs) y
          → (a : X) × Contains (x ∷ xs) a × (f a ≡ y)
      by in_rest (inl same) = (x, head_of x xs, same)
      by in_rest (inr later) =
          let it = in_rest later in (it.0, Contains-append_right (x ∷ []) xs it.0 it.1, it.2)

  -- the converse
  pub into_map : (xs : List X) (x : X) → Contains xs x → Contains (map f xs) (f x)
  into_map [] x there = absurd (omega (arith, there.1))
  into_map (y ∷ xs) x there = by (into_map xs x) (cons_cases y xs x there.0 there.1 there.2)
    where
      by : (Contains xs x → Contains (map f xs) (f x)) → (y ≡ x) ⊎ Contains xs x → Contains (map f (y ∷ xs)) (f x)
      by in_rest (inl same) = subst (λ (a : X). Contains (map f (y ∷ xs)) (f a)) same (head_of (f y) (map f xs))
      by in_rest (inr later) = Contains-append_right (f y ∷ []) (map f xs) (f x) (in_rest later)

module _ {X : Type 0} (p : X → Bool) where
  -- an element of a filtered list is one of the list, and passes the test
  pub from_filter : (xs : List X) (x : X) → Contains (filter p xs) x → Contains xs x × (p x ≡ true)
  from_filter [] x there = absurd (omega (arith, there.1))
  from_filter (y ∷ xs) x there = split (from_filter xs x) (p y) refl there
    where
      behind : Contains xs x × (p x ≡ true) → Contains (y ∷ xs) x × (p x ≡ true)
      behind it = (Contains-append_right (y ∷ []) xs x it.0, it.1)

      by : (Contains (filter p xs) x → Contains xs x × (p x ≡ true)) → p y ≡ true
          → (y ≡ x) ⊎ Contains (filter p xs) x → Contains (y ∷ xs) x × (p x ≡ true)
      by in_rest passes (inl same) =
          (subst (Contains (y ∷ xs)) same (head_of y xs), subst (λ (a : X). p a ≡ true) same passes)
      by in_rest passes (inr later) = behind (in_rest later)

      split : (Contains (filter p xs) x → Contains xs x × (p x ≡ true)) → (passes : Bool) → p y ≡ passes
          → Contains (if passes then y ∷ filter p xs else filter p xs) x → Contains (y ∷ xs) x × (p x ≡ true)
      split in_rest true passes found = by in_rest passes (cons_cases y (filter p xs) x found.0 found.1 found.2)
      split in_rest false fails found = behind (in_rest found)

  -- the converse
  pub into_filter : (xs : List X) (x : X) → Contains xs x → p x ≡ true → Contains (filter p xs) x
  into_filter [] x there passes = absurd (omega (arith, there.1))
  into_filter (y ∷ xs) x there passes =
      split (λ later. into_filter xs x later passes) (p y) refl (cons_cases y xs x there.0 there.1 there.2)
    where
      split : (Contains xs x → Contains (filter p xs) x) → (b : Bool) → p y ≡ b → (y ≡ x) ⊎ Contains xs x
          → Contains (if b then y ∷ filter p xs else filter p xs) x
      split in_rest true is (inl same) = subst (Contains (y ∷ filter p xs)) same (head_of y (filter p xs))
      split in_rest true is (inr later) = Contains-append_right (y ∷ []) (filter p xs) x (in_rest later)
      split in_rest false is (inl same) =
          absurd (let yes : p y ≡ true = rw same passes in let no : ⊥ = cc in no)
      split in_rest false is (inr later) = in_rest later

module _ {X K : Type 0} (same_key : K → K → Bool) (reflexive : (k : K) → same_key k k ≡ true) (key : X → K) where
  -- a key that isn't among the keys is that of no element
  none_of : (k : K) (xs : List X) → AllByRecursion (λ y. same_key k y ≡ false) (map key xs)
      → (x : X) → Contains xs x → key x ≡ k → ⊥
  none_of k [] none x there same = omega (arith, there.1)
  none_of k (y ∷ xs) none x there same =
      by (λ later. none_of k xs none.1 x later same) (cons_cases y xs x there.0 there.1 there.2)
    where
      by : (Contains xs x → ⊥) → (y ≡ x) ⊎ Contains xs x → ⊥
      by in_rest (inl here) =
          let own : key y ≡ k = ap key here ∙ same in
          let yes : same_key k (key y) ≡ true = rw own (reflexive k) in
          let no : same_key k (key y) ≡ false = none.0 in
          let bad : ⊥ = cc in bad
      by in_rest (inr later) = in_rest later

  -- elements with the same key are the same element, if keys are distinct
  pub one_element : (xs : List X) → IsDistinct same_key (map key xs) → (a b : X) → Contains xs a → Contains xs b
      → key a ≡ key b → a ≡ b
  unfolding IsDistinct
  one_element [] distinct a b first second same = absurd (omega (arith, first.1))
  one_element (x ∷ xs) distinct a b first second same =
      by (λ one other. one_element xs distinct.1 a b one other same) (cons_cases x xs a first.0 first.1 first.2)
      (cons_cases x xs b second.0 second.1 second.2)
    where
      by : (Contains xs a → Contains xs b → a ≡ b) → (x ≡ a) ⊎ Contains xs a → (x ≡ b) ⊎ Contains xs b → a ≡ b
      by in_rest (inl here) (inl there) = sym here ∙ there
      by in_rest (inl here) (inr later) =
          absurd (none_of (key x) xs distinct.0 b later (sym same ∙ sym (ap key here)))
      by in_rest (inr later) (inl there) =
          absurd (none_of (key x) xs distinct.0 a later (same ∙ sym (ap key there)))
      by in_rest (inr one) (inr other) = in_rest one other
