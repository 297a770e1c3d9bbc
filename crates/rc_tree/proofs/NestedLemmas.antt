-- When the walk of a graph's function succeeds, and when it finds a cycle: the marks of the entered functions,
-- compared with the functions that are inside each other.
pub mod InsideFunction
use Rattle.std.proofs.Common.{◌≡◌, ◌<◌, ◌⊎◌, inl, inr, ℕ, zero, suc, Bool, true, false, List, [], ◌∷◌, Option, None}
use Rattle.std.proofs.Common.{Some, Result, Ok, Err, map, arith, ap, refl, subst, ◌∙◌}
use Rattle.std.specs.Prelude.{slice_get, slice_set, OnOk}
use Rattle.rc_names.specs.Numbers.{FunctionId, to_id}
use Rattle.rc_hir.specs.Model.{Fault, HirFunction}
use Rattle.rc_hir.specs.declared.fault.Fault.TheVariants.{FunctionCycle}
use Rattle.rc_tree.proofs.ReadFunctionLemmas.{left_marked}
use Rattle.rc_tree.specs.Nested.{ContainsFunction, by_row, CanReach, itself, through, IsInsideItself, HasNoCycle}
use Rattle.rc_tree.specs.Nested.{IsCycleAt}
use Rattle.rc_tree.specs.Nested.{HasHookFault}
use Rattle.rc_tree.specs.Step.{Walk, IsStep}
use Rattle.rc_tree.specs.ReadFunction.{not_entered, numbered_function, by_mark, function_to, function_at}
use Rattle.rc_tree.specs.ReadFunction.{read_function}
use Rattle.rc_tree.specs.ReadSteps.{ReadSteps}
use Rattle.rc_tree.proofs.NestedLemmas.InsideFunction.{Fails, Answers, function_answers, BlockFails, looked_up}

-- a mark that is set was set before, or is the new one
set_before : (marks : List Bool) (i k : ℕ) → slice_get (slice_set marks i true) k ≡ Some true → (i ≡ k)
    ⊎ (slice_get marks k ≡ Some true)
set_before [] i k e = inr e
set_before (m ∷ marks) zero zero e = inl refl
set_before (m ∷ marks) zero (suc k) e = inr e
set_before (m ∷ marks) (suc i) zero e = inr e
set_before (m ∷ marks) (suc i) (suc k) e = elim (set_before marks i k e) [ inl h ↦ inl (ap suc h) | inr h ↦ inr h ]

-- a mark that isn't set wasn't set before
unset_before : (marks : List Bool) (i k : ℕ) → slice_get (slice_set marks i true) k ≡ Some false
    → slice_get marks k ≡ Some false
unset_before [] i k e = e
unset_before (m ∷ marks) zero zero e = let bad : ⊥ = cc in absurd bad
unset_before (m ∷ marks) zero (suc k) e = e
unset_before (m ∷ marks) (suc i) zero e = e
unset_before (m ∷ marks) (suc i) (suc k) e = unset_before marks i k e

-- the new mark is set
set_there : (marks : List Bool) (i : ℕ) → slice_get marks i ≡ Some false
    → slice_get (slice_set marks i true) i ≡ Some true
set_there [] i e = let bad : ⊥ = cc in absurd bad
set_there (m ∷ marks) zero e = refl
set_there (m ∷ marks) (suc i) e = set_there marks i e

-- no mark is set at first
none_set : {X : Type 0} (xs : List X) (i : ℕ) → slice_get (map (λ x. false) xs) i ≡ Some true → ⊥
none_set [] i e = cc
none_set (x ∷ xs) zero e = cc
none_set (x ∷ xs) (suc i) e = none_set xs i e

module _ {S : Type 0} (v : ReadSteps S) (functions : List HirFunction) where
  -- a function that isn't entered and isn't inside itself
  abbrev Clear : List Bool → FunctionId → Type 0
  Clear entered func = (slice_get entered func.0 ≡ Some false) × (IsInsideItself functions func → ⊥)

  -- facts of the functions inside one, from facts of the functions directly inside it
  module _ (inner : FunctionId → Walk S) (entered : List Bool) (func : FunctionId)
      (below : (held : FunctionId) → Answers v functions inner held → (g : FunctionId) → CanReach functions held g
      → Clear (slice_set entered func.0 true) g) where
    held_answers : (held : FunctionId) (s : S) (r : Unit {0} × S) → ContainsFunction functions func held
        → numbered_function v functions inner func (slice_get functions func.0) s ≡ Ok r
        → Answers v functions inner held
    held_answers held s r (by_row x row at named holds) e =
        function_answers v functions inner x row held s r named holds
        (subst (λ (h : Option HirFunction). numbered_function v functions inner func h s ≡ Ok r) at e)

    clear_below : (s : S) (r : Unit {0} × S) → slice_get entered func.0 ≡ Some false
        → numbered_function v functions inner func (slice_get functions func.0) s ≡ Ok r
        → (g : FunctionId) → CanReach functions func g → Clear entered g
    clear_below s r unset e g itself = (
      unset,
      λ p.
          let known = below p.0 (held_answers p.0 s r p.1 e) func p.2 in
          let set = set_there entered func.0 unset in cc,
    )
    clear_below s r unset e g (through {middle = middle} holds rest) =
        let known = below middle (held_answers middle s r holds e) g rest in
        (unset_before entered func.0 g.0 known.0, known.1)

  clear_by_mark : (walk : List Bool → FunctionId → Walk S) (entered : List Bool) (func : FunctionId) (s : S)
      (r : Unit {0} × S)
      → ((held : FunctionId) → Answers v functions (walk (slice_set entered func.0 true)) held → (g : FunctionId)
      → CanReach functions held g → Clear (slice_set entered func.0 true) g)
      → (mark : Option Bool) → slice_get entered func.0 ≡ mark → by_mark v functions walk entered func mark s ≡ Ok r
      → (g : FunctionId) → CanReach functions func g → Clear entered g
  clear_by_mark walk entered func s r below None is e = let bad : ⊥ = cc in absurd bad
  clear_by_mark walk entered func s r below (Some true) is e = let bad : ⊥ = cc in absurd bad
  clear_by_mark walk entered func s r below (Some false) is e =
      clear_below (walk (slice_set entered func.0 true)) entered func below s r is e

  -- if the walk succeeds, no function that it meets is inside itself
  all_clear : (n : ℕ) (entered : List Bool) (func : FunctionId) (s : S) (r : Unit {0} × S)
      → function_to v functions n entered func s ≡ Ok r → (g : FunctionId) → CanReach functions func g → Clear entered g
  unfolding function_to
  all_clear zero entered func s r e = let bad : ⊥ = cc in absurd bad
  all_clear (suc n) entered func s r e = clear_by_mark (function_to v functions n) entered func s r
      (λ held a. all_clear n (slice_set entered func.0 true) held a.0 a.1 a.2) (slice_get entered func.0) refl e

  -- a function is reached that is entered already or is inside itself
  abbrev Met : List Bool → FunctionId → FunctionId → Type 0
  Met entered func g = CanReach functions func g × ((slice_get entered g.0 ≡ Some true) ⊎ IsInsideItself functions g)

  same_number : (f g : FunctionId) → f.0 ≡ g.0 → f ≡ g
  same_number f g e = ap to_id e

  set_or_inside : (entered : List Bool) (func held g : FunctionId) → ContainsFunction functions func held
      → CanReach functions held g
      → (slice_get (slice_set entered func.0 true) g.0 ≡ Some true) ⊎ IsInsideItself functions g
      → (slice_get entered g.0 ≡ Some true) ⊎ IsInsideItself functions g
  set_or_inside entered func held g holds rest (inl h) = elim (set_before entered func.0 g.0 h) [
    | inl e ↦ inr (
      held,
      subst (λ (f : FunctionId). ContainsFunction functions f held)
          (same_number func g e) holds,
      rest,
    )
    | inr e ↦ inl e
  ]
  set_or_inside entered func held g holds rest (inr h) = inr h

  met_or_hook : (walk : List Bool → FunctionId → Walk S) (entered : List Bool) (func : FunctionId) (g : FunctionId)
      → ((held : FunctionId) → Fails (walk (slice_set entered func.0 true) held) (FunctionCycle g)
      → HasHookFault v (FunctionCycle g) ⊎ Met (slice_set entered func.0 true) held g)
      → (x : HirFunction) → slice_get functions func.0 ≡ Some x
      → BlockFails v functions (walk (slice_set entered func.0 true)) x g → HasHookFault v (FunctionCycle g)
      ⊎ Met entered func g
  met_or_hook walk entered func g below x at (inl h) = inl h
  met_or_hook walk entered func g below x at (inr p) = elim (below p.2 p.4) [
    | inl h ↦ inl h
    | inr m ↦ let holds : ContainsFunction functions func p.2 =
        by_row x p.0 at p.1 p.3 in inr (through holds m.0, set_or_inside entered func p.2 g holds m.0 m.1)
  ]

  cycle_by_mark : (walk : List Bool → FunctionId → Walk S) (entered : List Bool) (func : FunctionId) (s : S)
      (g : FunctionId)
      → (slice_get entered func.0 ≡ Some false → (held : FunctionId)
      → Fails (walk (slice_set entered func.0 true) held) (FunctionCycle g) → HasHookFault v (FunctionCycle g)
      ⊎ Met (slice_set entered func.0 true) held g)
      → (mark : Option Bool) → slice_get entered func.0 ≡ mark
      → by_mark v functions walk entered func mark s ≡ Err (FunctionCycle g)
      → HasHookFault v (FunctionCycle g) ⊎ Met entered func g
  cycle_by_mark walk entered func s g below None is e = let bad : ⊥ = cc in absurd bad
  cycle_by_mark walk entered func s g below (Some true) is e =
      let same : func
      ≡ g = cc in inr (
        subst (CanReach functions func) same itself,
        inl
            (subst (λ (f : FunctionId). slice_get entered f.0 ≡ Some true) same is),
      )
  cycle_by_mark walk entered func s g below (Some false) is e =
      let x = looked_up v functions (walk (slice_set entered func.0 true)) func (slice_get functions func.0) s g e in
      met_or_hook walk entered func g (below is) x.0 x.1 x.2

  -- a cycle that isn't a hook's fault is that of a function that is met inside itself
  cycle_met : (n : ℕ) (entered : List Bool) (func : FunctionId) (s : S) (g : FunctionId)
      → not_entered entered < n → function_to v functions n entered func s ≡ Err (FunctionCycle g)
      → HasHookFault v (FunctionCycle g) ⊎ Met entered func g
  unfolding function_to
  cycle_met zero entered func s g lt e = absurd (omega (arith, lt))
  cycle_met (suc n) entered func s g lt e = cycle_by_mark (function_to v functions n) entered func s g
      (λ is held f. cycle_met n (slice_set entered func.0 true) held f.0 g
      (omega (arith, lt, left_marked entered func.0 is)) f.1) (slice_get entered func.0) refl e

  -- the walk succeeds only if there is no cycle
  no_cycle : (func : FunctionId) (s : S) (r : Unit {0} × S) → read_function v functions func s ≡ Ok r
      → HasNoCycle functions func
  unfolding function_at
  no_cycle func s r e g p =
      (all_clear (suc (not_entered (map (λ x. false) functions))) (map (λ x. false) functions) func s r e g p).1

  -- it finds a cycle only if there is one, or if a hook returns that fault
  cycle_at : (func : FunctionId) (s : S) (g : FunctionId) → read_function v functions func s ≡ Err (FunctionCycle g)
      → HasHookFault v (FunctionCycle g) ⊎ IsCycleAt functions func g
  unfolding function_at
  cycle_at func s g e = elim (cycle_met (suc (not_entered (map (λ x. false) functions))) (map (λ x. false) functions)
      func s g (omega arith) e) [
        | inl h ↦ inl h
        | inr m ↦ inr (m.0, elim m.1 [ inl set ↦ absurd (none_set functions g.0 set) | inr inside ↦ inside ])
      ]

  -- the same for the result of a call
  pub no_cycle_given : (func : FunctionId) (s new : S) (r : Result (Unit {0}) Fault)
      → IsStep (read_function v functions func s) r new → OnOk r (HasNoCycle functions func)
  no_cycle_given func s new (Ok a) h = no_cycle func s (a, new) h
  no_cycle_given func s new (Err fault) h = tt

  pub cycle_given : (func : FunctionId) (s new : S) (r : Result (Unit {0}) Fault)
      → IsStep (read_function v functions func s) r new
      → (g : FunctionId) → r ≡ Err (FunctionCycle g) → HasHookFault v (FunctionCycle g) ⊎ IsCycleAt functions func g
  cycle_given func s new (Ok a) h g e = let bad : ⊥ = cc in absurd bad
  cycle_given func s new (Err fault) (inl none) g e = let bad : ⊥ = cc in absurd bad
  cycle_given func s new (Err fault) (inr is) g e =
      let same : fault ≡ FunctionCycle g = cc in cycle_at func s g (is ∙ ap (λ (f : Fault). Err f) same)
