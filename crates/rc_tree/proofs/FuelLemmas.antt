-- Joining computations with fuel: a first one that succeeds, one that fails, a step before and after, a list in turn.
use Rattle.std.proofs.Common.{◌≡◌, ◌⊎◌, ◌≤◌, inl, inr, ℕ, max, List, [], ◌∷◌, ◌++◌, reverse, take, drop, slice_get}
use Rattle.std.proofs.Common.{slice_set, length, Some, ◌+◌, suc, add-one, Result, Ok, Err, refl, sym, ap, ◌∙◌, subst}
use Rattle.std.proofs.Common.{arith}
use denote.Param.Weighed.{most, most-append}
use Rattle.std.proofs.Math.Seq.{take-suc-set}
use Rattle.std.proofs.lemmas.List.{reverse-append, take_all, drop_all, drop-set-lt}
use Rattle.std.proofs.lemmas.Option.{slice_get_within}
use Rattle.rc_hir.specs.Model.{Fault}
use Rattle.rc_hir.specs.declared.fault.Fault.TheVariants.{NoMemory}
use Rattle.rc_tree.proofs.StepLemmas.{Err-injective, Ok-injective, not_err, gives_next, gives_fault}
use Rattle.rc_tree.proofs.PlaceLemmas.{ends_with, at_place}
use Rattle.rc_tree.specs.Step.{IsStep}
use Rattle.rc_tree.specs.Fuel.{Fueled, OutOfFuel, Failed, Done, bind, after, last, as_step, Hook}
use Rattle.rc_tree.specs.inside.EnoughFuel.{IsFueled, HasFuel}
use Rattle.rc_tree.specs.Fuel.{FueledWalk, FueledInto, in_turn, kept_into, by_answer}
use Rattle.rc_tree.specs.Model.{Enter}
use Rattle.rc_tree.specs.declared.hooks.Enter.TheVariants.{Inside}

-- a computation that succeeds, and the next one
pub meets_next : {A B S T : Type 0} (first : Fueled (A × S)) (next : A × S → Fueled (B × T)) (a : A) (s : S)
    (r : Result B Fault) (t : T)
    → IsFueled first (Ok a) s → IsFueled (next (a, s)) r t → IsFueled (bind first next) r t
meets_next OutOfFuel next a s r t f h = tt
meets_next (Failed fault) next a s r t (inl e) h = absurd (not_err a NoMemory e)
meets_next (Failed fault) next a s r t (inr e) h = absurd (not_err a fault e)
meets_next (Done d) next a s r t (inl e) h = absurd (not_err a NoMemory e)
meets_next (Done d) next a s r t (inr e) h =
    let same : (a, s) ≡ d = λ i. (Ok-injective a d.0 e.0 i, e.1 i) in subst (λ p. IsFueled (next p) r t) same h

-- a call may always run out of memory
meets_no_memory : {B T : Type 0} (x : Fueled (B × T)) (t : T) → IsFueled x (Err NoMemory) t
meets_no_memory OutOfFuel t = tt
meets_no_memory (Failed bad) t = inl refl
meets_no_memory (Done d) t = inl refl

none_left : {B T : Type 0} (x : Fueled (B × T)) (fault : Fault) (t : T) → fault ≡ NoMemory → IsFueled x (Err fault) t
none_left x fault t e = subst (λ f. IsFueled x (Err f) t) (sym e) (meets_no_memory x t)

-- a computation that fails ends the walk
pub meets_fault : {A B S T : Type 0} (first : Fueled (A × S)) (next : A × S → Fueled (B × T)) (fault : Fault) (s : S)
    (t : T)
    → IsFueled first (Err fault) s → IsFueled (bind first next) (Err fault) t
meets_fault OutOfFuel next fault s t f = tt
meets_fault (Failed bad) next fault s t (inl e) = inl (ap Err (Err-injective fault NoMemory e))
meets_fault (Failed bad) next fault s t (inr e) = inr (ap Err (Err-injective fault bad e))
meets_fault (Done d) next fault s t (inl e) = none_left (next d) fault t (Err-injective fault NoMemory e)
meets_fault (Done d) next fault s t (inr e) = absurd (not_err d.0 fault (sym e.0))

-- the walk of a part, and the whole that is made of the part
pub meets_made : {W X Y : Type 0} (first : Fueled (Unit {0} × (W × X))) (make : X → Y) (r : Result (Unit {0}) Fault)
    (w : W) (x : X)
    → IsFueled {S = W × X} first r (w, x) → IsFueled {S = W × Y} (bind first (λ a. Done (tt, (a.1.0, make a.1.1)))) r
    (w, make x)
meets_made OutOfFuel make r w x h = tt
meets_made (Failed fault) make r w x h = h
meets_made (Done d) make r w x (inl e) = inl e
meets_made (Done d) make r w x (inr e) = inr (e.0, ap (λ p. (p.0, make p.1)) e.1)

-- a step first, which succeeds
pub meets_after : {A B T : Type 0} (first : Result A Fault) (next : A → Fueled (B × T)) (a : A) (r : Result B Fault)
    (t : T)
    → first ≡ Ok a → IsFueled (next a) r t → IsFueled (after first next) r t
meets_after first next a r t e h = subst (λ x. IsFueled (after x next) r t) (sym e) h

-- a step first, which fails
pub meets_after_fault : {A B T : Type 0} (first : Result A Fault) (next : A → Fueled (B × T)) (fault : Fault) (t : T)
    → (fault ≡ NoMemory) ⊎ (first ≡ Err fault) → IsFueled (after first next) (Err fault) t
meets_after_fault first next fault t (inl e) = none_left (after first next) fault t e
meets_after_fault first next fault t (inr e) = subst (λ x. IsFueled (after x next) (Err fault) t) (sym e) (inr refl)

-- a step last
pub meets_last : {A S : Type 0} (first : Result (A × S) Fault) (r : Result A Fault) (t : S) → IsStep first r t
    → IsFueled (last first) r t
meets_last first (Ok a) t e = subst (λ x. IsFueled (last x) (Ok a) t) (sym e) (inr (refl, refl))
meets_last first (Err fault) t (inl e) = none_left (last first) fault t e
meets_last first (Err fault) t (inr e) = subst (λ x. IsFueled (last x) (Err fault) t) (sym e) (inr refl)

-- the enter step, the inside and the leave step
pub meets_inside : {W X : Type 0} (enter : Result (Enter × (W × X)) Fault) (inside : FueledWalk W X)
    (leave : Hook W X (Unit {0})) (s s1 : W × X) (r : Result (Unit {0}) Fault) (t : W × X)
    → enter ≡ Ok (Inside, s) → IsFueled (inside s.0 s.1) (Ok tt) s1 → IsStep (leave s1.0 s1.1) r t
    → IsFueled (after enter (λ q. by_answer inside leave q.0 q.1)) r t
meets_inside enter inside leave s s1 r t e h k =
    meets_after enter (λ q. by_answer inside leave q.0 q.1) (Inside, s) r t e
    (meets_next (inside s.0 s.1) (λ q. last (leave q.1.0 q.1.1)) tt s1 r t h (meets_last (leave s1.0 s1.1) r t k))

-- the enter step and the inside, where the inside fails
pub meets_inside_fault : {W X : Type 0} (enter : Result (Enter × (W × X)) Fault) (inside : FueledWalk W X)
    (leave : Hook W X (Unit {0})) (s s1 : W × X) (fault : Fault) (t : W × X)
    → enter ≡ Ok (Inside, s) → IsFueled (inside s.0 s.1) (Err fault) s1
    → IsFueled (after enter (λ q. by_answer inside leave q.0 q.1)) (Err fault) t
meets_inside_fault enter inside leave s s1 fault t e h =
    meets_after enter (λ q. by_answer inside leave q.0 q.1) (Inside, s) (Err fault) t e
    (meets_fault (inside s.0 s.1) (λ q. last (leave q.1.0 q.1.1)) fault s1 t h)

-- a computation that had enough fuel, as a step
pub gives_settled : {A S : Type 0} (run : Fueled (A × S)) (r : Result A Fault) (t : S) → HasFuel run → IsFueled run r t
    → IsStep (as_step run) r t
unfolding HasFuel as_step
gives_settled OutOfFuel r t k h = absurd k
gives_settled (Failed bad) (Ok a) t k (inl e) = absurd (not_err a NoMemory e)
gives_settled (Failed bad) (Ok a) t k (inr e) = absurd (not_err a bad e)
gives_settled (Failed bad) (Err fault) t k (inl e) = inl (Err-injective fault NoMemory e)
gives_settled (Failed bad) (Err fault) t k (inr e) = inr (ap Err (sym (Err-injective fault bad e)))
gives_settled (Done d) (Ok a) t k (inl e) = absurd (not_err a NoMemory e)
gives_settled (Done d) (Ok a) t k (inr e) = ap Ok (λ i. (Ok-injective d.0 a (sym e.0) i, sym e.1 i))
gives_settled (Done d) (Err fault) t k (inl e) = inl (Err-injective fault NoMemory e)
gives_settled (Done d) (Err fault) t k (inr e) = absurd (not_err d.0 fault (sym e.0))

-- the loop over a list: either the fuel of the whole is used up, or the walk of the entries that are left is that of
-- all
module _ {W X : Type 0} (into : FueledInto W X) (whole : Fueled (Unit {0} × (W × List X))) where
  abbrev pub SoFar : Fueled (Unit {0} × (W × List X)) → Type 0
  SoFar left = (whole ≡ OutOfFuel) ⊎ (whole ≡ left)

  so_far_step : (w : W) (done : List X) (x : X) (xs : List X) (w1 : W) (done1 : List X)
      → SoFar (in_turn into w done (x ∷ xs)) → IsFueled (into w done x) (Ok tt) (w1, done1)
      → SoFar (in_turn into w1 done1 xs)
  so_far_step w done x xs w1 done1 (inl e) h = inl e
  so_far_step w done x xs w1 done1 (inr e) h = by (into w done x) e h
    where
      by : (first : Fueled (Unit {0} × (W × List X))) → whole ≡ bind first (λ r. in_turn into r.1.0 r.1.1 xs)
          → IsFueled first (Ok tt) (w1, done1) → SoFar (in_turn into w1 done1 xs)
      by OutOfFuel e h = inl e
      by (Failed fault) e (inl k) = absurd (not_err tt NoMemory k)
      by (Failed fault) e (inr k) = absurd (not_err tt fault k)
      by (Done d) e (inl k) = absurd (not_err tt NoMemory k)
      by (Done d) e (inr k) = inr (e ∙ ap (λ r. in_turn into r.0 r.1 xs) (sym k.1))

  so_far_stop : (w : W) (done : List X) (x : X) (xs : List X) (fault : Fault) (s t : W × List X)
      → SoFar (in_turn into w done (x ∷ xs)) → IsFueled (into w done x) (Err fault) s → IsFueled whole (Err fault) t
  so_far_stop w done x xs fault s t (inl e) h = subst (λ f. IsFueled f (Err fault) t) (sym e) tt
  so_far_stop w done x xs fault s t (inr e) h = subst (λ f. IsFueled f (Err fault) t) (sym e)
      (meets_fault (into w done x) (λ r. in_turn into r.1.0 r.1.1 xs) fault s t h)

  turned : (left rest : List X) (x : X) → left ≡ rest ++ x ∷ [] → reverse left ≡ x ∷ reverse rest
  turned left rest x e = ap reverse e ∙ reverse-append rest (x ∷ [])

  -- an entry was walked
  pub so_far_next : (w : W) (done left rest : List X) (x : X) (w1 : W) (done1 : List X)
      → SoFar (in_turn into w done (reverse left)) → left ≡ rest ++ x ∷ []
      → IsFueled (into w done x) (Ok tt) (w1, done1)
      → SoFar (in_turn into w1 done1 (reverse rest))
  so_far_next w done left rest x w1 done1 so_far e h =
      so_far_step w done x (reverse rest) w1 done1 (subst (λ l. SoFar (in_turn into w done l)) (turned left rest x e)
      so_far) h

  -- an entry's walk failed
  pub so_far_fault : (w : W) (done left rest : List X) (x : X) (fault : Fault) (s t : W × List X)
      → SoFar (in_turn into w done (reverse left)) → left ≡ rest ++ x ∷ [] → IsFueled (into w done x) (Err fault) s
      → IsFueled whole (Err fault) t
  so_far_fault w done left rest x fault s t so_far e h =
      so_far_stop w done x (reverse rest) fault s t (subst (λ l. SoFar (in_turn into w done l)) (turned left rest x e)
      so_far) h

  -- no entry is left
  pub so_far_end : (w : W) (done left : List X) → SoFar (in_turn into w done (reverse left)) → left ≡ []
      → IsFueled whole (Ok tt) (w, done)
  so_far_end w done left so_far e = by (subst (λ l. SoFar (in_turn into w done (reverse l))) e so_far)
    where
      by : SoFar (Done (tt, (w, done))) → IsFueled whole (Ok tt) (w, done)
      by (inl e) = subst (λ f. IsFueled f (Ok tt) (w, done)) (sym e) tt
      by (inr e) = subst (λ f. IsFueled f (Ok tt) (w, done)) (sym e) (inr (refl, refl))

-- the reverse of a list has the same depth
pub most-reverse : {X : Type 0} (μ : X → ℕ) (xs : List X) → most μ (reverse xs) ≡ most μ xs
most-reverse μ [] = refl
most-reverse μ (x ∷ xs) =
    let k : most μ (reverse (x ∷ xs)) ≡ max (most μ (reverse xs)) (max (μ x) 0) = ap (most μ)
    (reverse-append (x ∷ []) xs) ∙ most-append μ (reverse xs) (x ∷ []) in omega (arith, k, most-reverse μ xs)

-- the loop over a list whose last entry is walked first and then removed
module _ {W X : Type 0} (into : FueledInto W X) (whole : Fueled (Unit {0} × (W × List X))) (w : W) (done left : List X)
    (so_far : SoFar into whole (in_turn into w done (reverse left))) (full : left ≡ [] → ⊥) where
  -- the last entry was walked
  pub so_far_next_last : (w1 : W) (done1 left1 : List X)
      → ((rest : List X) (x : X) → left ≡ rest ++ x ∷ [] → left1 ≡ rest)
      → ((rest : List X) (x : X) → left ≡ rest ++ x ∷ [] → IsFueled (into w done x) (Ok tt) (w1, done1))
      → SoFar into whole (in_turn into w1 done1 (reverse left1))
  so_far_next_last w1 done1 left1 off walked =
      let p = ends_with left full in
      subst (λ l. SoFar into whole (in_turn into w1 done1 (reverse l))) (sym (off p.0 p.1 p.2))
      (so_far_next into whole w done left p.0 p.1 w1 done1 so_far p.2 (walked p.0 p.1 p.2))

  -- the walk of the last entry failed
  pub so_far_fault_last : (fault : Fault) (s t : W × List X)
      → ((rest : List X) (x : X) → left ≡ rest ++ x ∷ [] → IsFueled (into w done x) (Err fault) s)
      → IsFueled whole (Err fault) t
  so_far_fault_last fault s t walked =
      let p = ends_with left full in
      so_far_fault into whole w done left p.0 p.1 fault s t so_far p.2 (walked p.0 p.1 p.2)

-- the loop over a list whose entries are walked in their places
module _ {W X : Type 0} (part : FueledWalk W X) (whole : Fueled (Unit {0} × (W × List X))) where
  abbrev SoFarAt : W → List X → ℕ → Type 0
  SoFarAt w xs i = SoFar (kept_into part) whole (in_turn (kept_into part) w (take i xs) (drop i xs))

  -- the entries from an index on are the entry there and the later ones
  opened : (w : W) (xs : List X) (i : ℕ) (x : X) → SoFarAt w xs i → slice_get xs i ≡ Some x
      → SoFar (kept_into part) whole (in_turn (kept_into part) w (take i xs) (x ∷ drop (suc i) xs))
  opened w xs i x so_far e =
      subst (λ l. SoFar (kept_into part) whole (in_turn (kept_into part) w (take i xs) l)) (at_place xs i x e) so_far

  -- an entry was walked
  pub place_next : (w : W) (xs : List X) (i : ℕ) (x : X) (w1 : W) (y : X) → SoFarAt w xs i → slice_get xs i ≡ Some x
      → IsFueled (part w x) (Ok tt) (w1, y) → SoFarAt w1 (slice_set xs i y) (i + 1)
  place_next w xs i x w1 y so_far e h =
      rw (add-one, take-suc-set xs i y (slice_get_within xs i x e), drop-set-lt (suc i) xs i y (omega arith))
      (so_far_step (kept_into part) whole w (take i xs) x (drop (suc i) xs) w1 (take i xs ++ y ∷ [])
      (opened w xs i x so_far e)
      (meets_made (part w x) (λ z. take i xs ++ z ∷ []) (Ok tt) w1 y h))

  -- an entry's walk failed
  pub place_fault : (w : W) (xs : List X) (i : ℕ) (x : X) (fault : Fault) (s : W × X) (t : W × List X) → SoFarAt w xs i
      → slice_get xs i ≡ Some x → IsFueled (part w x) (Err fault) s → IsFueled whole (Err fault) t
  place_fault w xs i x fault s t so_far e h =
      so_far_stop (kept_into part) whole w (take i xs) x (drop (suc i) xs) fault (s.0, take i xs) t
      (opened w xs i x so_far e)
      (meets_fault (part w x) (λ r. Done (tt, (r.1.0, take i xs ++ r.1.1 ∷ []))) fault s (s.0, take i xs) h)

  -- no entry is left
  pub place_end : (w : W) (xs : List X) (n : ℕ) → SoFarAt w xs n → length xs ≤ n → IsFueled whole (Ok tt) (w, xs)
  place_end w xs n so_far h =
      let behind : SoFar (kept_into part) whole (in_turn (kept_into part) w (take n xs) []) =
      subst (λ l. SoFar (kept_into part) whole (in_turn (kept_into part) w (take n xs) l)) (drop_all n xs h) so_far in
      so_far_end (kept_into part) whole w xs []
      (subst (λ l. SoFar (kept_into part) whole (in_turn (kept_into part) w l [])) (take_all n xs h) behind) refl

-- with these, `search` follows visits
pub ruleset visiting = (gives_next, gives_fault)

-- with these, `search` follows a rewriting walk through its calls, and its loops over lists
pub ruleset rewriting =
    (meets_next, meets_fault, meets_after, meets_after_fault, meets_last, meets_inside, meets_inside_fault)

pub ruleset rewriting_lists = (so_far_fault, so_far_end)
