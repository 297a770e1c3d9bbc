-- The entries of a list at an index and at the end, their changes, and the entries after them.
use Rattle.std.proofs.Common.{◌≡◌, ◌∙◌, ◌+◌, ◌<◌, ◌≤◌, ℕ, zero, suc, add-one, max, List, [], ◌∷◌, ◌++◌, length}
use Rattle.std.proofs.Common.{drop, Option, None, Some, slice_get, slice_set, refl, sym, ap, arith}
use Rattle.std.proofs.lemmas.List.{length-append, set_at, drop-set-lt}
use denote.Param.Weighed.{most, most-append}

-- a list that isn't empty has a last entry
pub ends_with : {X : Type 0} (xs : List X) → (xs ≡ [] → ⊥) → (rest : List X) × (x : X) × (xs ≡ rest ++ x ∷ [])
ends_with [] full = absurd (full refl)
ends_with (x ∷ []) full = ([], x, refl)
ends_with (x ∷ y ∷ ys) full =
    let p = ends_with (y ∷ ys) (λ e. cc) in
    (x ∷ p.0, p.1, ap (λ l. x ∷ l) p.2)

-- a list with a last entry isn't empty
pub ends_full : {X : Type 0} (left rest : List X) (x : X) → left ≡ rest ++ x ∷ [] → 1 ≤ length left
ends_full left rest x e =
    let h : length left ≡ length rest + 1 = ap length e ∙ length-append rest (x ∷ []) in
    omega (arith, h)

-- the index of the entry after others is their length
get_behind : {X : Type 0} (before : List X) (x : X) (behind : List X)
    → slice_get (before ++ x ∷ behind) (length before) ≡ Some x
get_behind [] x behind = refl
get_behind (y ∷ before) x behind = get_behind before x behind

-- the index of the last entry
last_place : {X : Type 0} (left rest : List X) (x : X) (i : ℕ) → left ≡ rest ++ x ∷ [] → i + 1 ≡ length left
    → i ≡ length rest
last_place left rest x i e k =
    let h : length left ≡ length rest + 1 = ap length e ∙ length-append rest (x ∷ []) in
    omega (arith, k, h)

-- the last entry is found at its index and can be changed there
pub last_get : {X : Type 0} (left rest : List X) (x : X) (i : ℕ) → left ≡ rest ++ x ∷ [] → i + 1 ≡ length left
    → slice_get left i ≡ Some x
last_get left rest x i e k = rw (e, last_place left rest x i e k) (get_behind rest x [])

pub last_set : {X : Type 0} (left rest : List X) (x y : X) (i : ℕ) → left ≡ rest ++ x ∷ [] → i + 1 ≡ length left
    → slice_set left i y ≡ rest ++ y ∷ []
last_set left rest x y i e k = rw e (set_at rest x [] y i (sym (last_place left rest x i e k)))

-- the entry at the last index is the last entry
pub last_is : {X : Type 0} (left rest : List X) (x y : X) (i : ℕ) → left ≡ rest ++ x ∷ [] → i + 1 ≡ length left
    → Some y ≡ slice_get left i → x ≡ y
last_is left rest x y i e k h =
    let same : Some y ≡ Some x = h ∙ last_get left rest x i e k in
    cc

-- there is an entry at the last index
pub last_there : {X : Type 0} (left rest : List X) (x : X) (i : ℕ) → left ≡ rest ++ x ∷ [] → i + 1 ≡ length left
    → None ≡ slice_get left i → ⊥
last_there {X = X} left rest x i e k h =
    let same : ◌≡◌ {A = Option X} None (Some x) = h ∙ last_get left rest x i e k in
    cc

-- the entries that are left are no deeper than all
pub most_pop : {X : Type 0} (μ : X → ℕ) (left rest : List X) (x : X) → left ≡ rest ++ x ∷ []
    → (μ x ≤ most μ left) × (most μ rest ≤ most μ left)
most_pop μ left rest x e =
    let k : most μ left ≡ max (most μ rest) (max (μ x) 0) = ap (most μ) e ∙ most-append μ rest (x ∷ []) in
    (omega arith, omega arith)

-- the last entry is removed
pub taken_off : {X : Type 0} (μ : X → ℕ) (left new : List X)
    → ((rest : List X) (x : X) → left ≡ rest ++ x ∷ [] → new ≡ rest)
    → (left ≡ [] → ⊥) → (length new < length left) × (most μ new ≤ most μ left)
taken_off μ left new off full =
    let p = ends_with left full in
    let e = off p.0 p.1 p.2 in
    let k : length left ≡ length p.0 + 1 = ap length p.2 ∙ length-append p.0 (p.1 ∷ []) in
    let l : length new ≡ length p.0 = ap length e in
    let m : most μ new ≡ most μ p.0 = ap (most μ) e in
    (omega (arith, k, l), omega (arith, m, (most_pop μ left p.0 p.1 p.2).1))

-- the entries from an index on are the entry there and the later ones
pub at_place : {X : Type 0} (xs : List X) (i : ℕ) (x : X) → slice_get xs i ≡ Some x → drop i xs ≡ x ∷ drop (suc i) xs
at_place [] i x e = cc
at_place (y ∷ xs) zero x e = let h : y ≡ x = cc in ap (λ z. z ∷ xs) h
at_place (y ∷ xs) (suc i) x e = at_place xs i x e

-- an index without an entry is past the end
pub past_end : {X : Type 0} (xs : List X) (i : ℕ) → slice_get xs i ≡ None → length xs ≤ i
past_end [] i e = omega arith
past_end (x ∷ xs) zero e = let bad : ⊥ = cc in absurd bad
past_end (x ∷ xs) (suc i) e = let h = past_end xs i e in omega (arith, h)

-- an entry is no deeper than the entries from its index on, nor are the later entries
pub most_place : {X : Type 0} (μ : X → ℕ) (xs : List X) (i : ℕ) (x y : X) → slice_get xs i ≡ Some x
    → (μ x ≤ most μ (drop i xs)) × (most μ (drop (i + 1) (slice_set xs i y)) ≤ most μ (drop i xs))
most_place μ xs i x y e =
    let k : most μ (drop i xs) ≡ max (μ x) (most μ (drop (suc i) xs)) = ap (most μ) (at_place xs i x e) in
    let l : most μ (drop (suc i) (slice_set xs i y)) ≡ most μ (drop (suc i) xs) =
    ap (most μ) (drop-set-lt (suc i) xs i y (omega arith)) in
    rw add-one (omega (arith, k), omega (arith, k, l))
