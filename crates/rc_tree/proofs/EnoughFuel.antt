-- Computations with enough fuel: joining them, and the walk of values and rows, for which more fuel than the size is
-- enough.
use Rattle.std.proofs.Common.{◌≡◌, ◌≤◌, ◌<◌, arith, ℕ, zero, suc, List, [], ◌∷◌, ◌++◌, Result, Ok, Err, refl}
use denote.Hole.Carrier.{Values}
use denote.Param.Weighed.{most}
use Rattle.rc_hir.specs.Model.{Fault, HirFunction}
use Rattle.rc_names.specs.Numbers.{EvaluationOrder}
use Rattle.rc_tree.specs.Fuel.{Fueled, OutOfFuel, Failed, Done, bind, after, last, Hook, FueledWalk}
use Rattle.rc_tree.specs.inside.EnoughFuel.{HasFuel}
use Rattle.rc_tree.specs.Fuel.{FueledInto, in_turn, kept_into, each_part, around, by_answer}
use Rattle.rc_tree.specs.Rewrite.Values.{inside_base, instruction_inside, instruction_at, rows_at, value_layer}
use Rattle.rc_tree.specs.Rewrite.Values.{value_inside, value_to}
use Rattle.rc_tree.specs.RewriteSteps.{RewriteSteps, EntersNoDeeper}
use Rattle.rc_tree.specs.declared.value.ReactiveInstruction.{ReactiveInstruction, size-ReactiveInstruction}
use Rattle.rc_tree.specs.declared.value.ReactiveInstruction.{size_is-ReactiveInstruction}
use Rattle.rc_tree.specs.declared.value.ReactiveValue.{ReactiveValue, out-ReactiveValue, size-ReactiveValue}
use Rattle.rc_tree.specs.declared.value.ReactiveValue.{size_is-ReactiveValue}
use Rattle.rc_tree.specs.declared.value.ReactiveValue.TheBlock as values
use Rattle.rc_tree.specs.declared.value.ReactiveValue.TheOpen as value
use Rattle.rc_tree.specs.declared.value.ReactiveValue.TheOpen.{ReactiveValue-F}
use Rattle.rc_tree.specs.declared.value.ReactiveValue.TheVariants as reactive_values
use Rattle.rc_tree.specs.Model.{Enter}
use Rattle.rc_tree.specs.declared.hooks.Enter.TheVariants.{Inside, Skip}

pub known_bind : {A B : Type 0} (first : Fueled A) (next : A → Fueled B) → HasFuel first
    → ((a : A) → first ≡ Done a → HasFuel (next a)) → HasFuel (bind first next)
unfolding HasFuel
known_bind OutOfFuel next k h = k
known_bind (Failed fault) next k h = tt
known_bind (Done a) next k h = h a refl

pub known_after : {A B : Type 0} (first : Result A Fault) (next : A → Fueled B)
    → ((a : A) → first ≡ Ok a → HasFuel (next a))
    → HasFuel (after first next)
unfolding HasFuel
known_after (Ok a) next h = h a refl
known_after (Err fault) next h = tt

pub known_last : {A : Type 0} (first : Result A Fault) → HasFuel (last first)
unfolding HasFuel
known_last (Ok a) = tt
known_last (Err fault) = tt

pub done : {A : Type 0} (a : A) → HasFuel (Done a)
unfolding HasFuel
done a = tt

module _ {W X : Type 0} where
  -- the entries of a list in turn, each with enough fuel
  pub known_turn : (size : X → ℕ) (k : ℕ) (into : FueledInto W X)
      → ((w : W) (before : List X) (x : X) → size x ≤ k → HasFuel (into w before x))
      → (w : W) (before xs : List X) → most size xs ≤ k → HasFuel (in_turn into w before xs)
  known_turn size k into h w before [] e = done _
  known_turn size k into h w before (x ∷ xs) e =
      known_bind (into w before x) (λ r. in_turn into r.1.0 r.1.1 xs) (h w before x (omega (arith, e)))
      (λ r q. known_turn size k into h r.1.0 r.1.1 xs (omega (arith, e)))

  pub known_each : (size : X → ℕ) (k : ℕ) (part : FueledWalk W X) → ((w : W) (x : X) → size x ≤ k → HasFuel (part w x))
      → (xs : List X) → most size xs ≤ k → (w : W) → HasFuel (each_part part w xs)
  known_each size k part h xs e w = known_turn size k (kept_into part)
      (λ w0 before y q. known_bind (part w0 y) (λ r. Done (tt, (r.1.0, before ++ r.1.1 ∷ []))) (h w0 y q)
      (λ r p. done _)) w []
      xs e

  pub known_around : (enter : Hook W X Enter) (inside : FueledWalk W X) (leave : Hook W X (Unit {0})) (w : W) (x : X)
      → ((w1 : W) (x1 : X) (a : Enter) → enter w x ≡ Ok (a, (w1, x1)) → HasFuel (inside w1 x1))
      → HasFuel (around enter inside leave w x)
  known_around enter inside leave w x h =
      known_after (enter w x) (λ r. by_answer inside leave r.0 r.1) (λ r e. by r.0 r.1.0 r.1.1 e)
    where
      by : (a : Enter) (w1 : W) (x1 : X) → enter w x ≡ Ok (a, (w1, x1)) → HasFuel (by_answer inside leave a (w1, x1))
      by Inside w1 x1 e = known_bind (inside w1 x1) (λ r. last (leave r.1.0 r.1.1)) (h w1 x1 Inside e)
          (λ r q. known_last (leave r.1.0 r.1.1))
      by Skip w1 x1 e = done _

-- a visit first, a hook or a walk without fuel first, a part first
pub visit : {W B : Type 0} (first : Result (Unit {0} × W) Fault) (next : Unit {0} × W → Fueled B)
    → ((w1 : W) → HasFuel (next (tt, w1))) → HasFuel (after first next)
visit first next h = known_after first next (λ a e. h a.1)

pub hook : {W X B : Type 0} (first : Result (Unit {0} × (W × X)) Fault) (next : Unit {0} × (W × X) → Fueled B)
    → ((w1 : W) (x1 : X) → HasFuel (next (tt, (w1, x1)))) → HasFuel (after first next)
hook first next h = known_after first next (λ a e. h a.1.0 a.1.1)

pub part : {W X B : Type 0} (first : Fueled (Unit {0} × (W × X))) (next : Unit {0} × (W × X) → Fueled B) → HasFuel first
    → ((w1 : W) (x1 : X) → HasFuel (next (tt, (w1, x1)))) → HasFuel (bind first next)
part first next k h = known_bind first next k (λ a e. h a.1.0 a.1.1)

module _ {T S : Type 0} (v : RewriteSteps (T × S)) (functions : T → List HirFunction) where
  module _ (n : ℕ) (inner : EvaluationOrder → FueledWalk (T × S) ReactiveValue)
      (known : (id : EvaluationOrder) (w : T × S) (x : ReactiveValue) → size-ReactiveValue x < n
      → HasFuel (inner id w x))
    where
      pub known_instruction_inside : (w : T × S) (x : ReactiveInstruction) → size-ReactiveInstruction x ≤ n
          → HasFuel (instruction_inside v functions inner w x)
      known_instruction_inside w x h =
          let k : (w2 : T × S) → HasFuel (inner x.id w2 x.value) = λ w2. known x.id w2 x.value
          (omega (arith, h, size_is-ReactiveInstruction x)) in
          search (visit, part, done, k)

      pub known_instruction : EntersNoDeeper v → (w : T × S) (x : ReactiveInstruction) → size-ReactiveInstruction x ≤ n
          → HasFuel (instruction_at v functions inner w x)
      unfolding instruction_at
      known_instruction enters w x h =
          known_around v.enter_instruction (instruction_inside v functions inner) v.leave_instruction w x
          (λ w1 x1 a e. known_instruction_inside w1 x1 (omega (arith, h, enters.instruction w w1 x x1 a e)))

      known_rows : EntersNoDeeper v → (rows : List ReactiveInstruction) → most size-ReactiveInstruction rows ≤ n
          → (w : T × S) → HasFuel (rows_at v functions inner w rows)
      unfolding rows_at
      known_rows enters rows h w =
          known_each size-ReactiveInstruction n (instruction_at v functions inner) (known_instruction enters) rows h w

      abbrev weigh_value : ReactiveValue-F ReactiveValue ReactiveInstruction → ℕ
      weigh_value l = values.weighs-ReactiveValue.weight (Values values.the_members values.the_sigs values.the_carrier)
          values.the_depth l

      known_layer : EntersNoDeeper v → (w : T × S) (id : EvaluationOrder)
          (l : ReactiveValue-F ReactiveValue ReactiveInstruction) → weigh_value l < n
          → HasFuel (value_layer v functions inner w id l)
      known_layer enters w id (value.Instruction x) h =
          visit (inside_base v functions id x w) (λ a. Done (tt, (a.1, reactive_values.Instruction x))) (λ w1. done _)
      known_layer enters w id (value.LogicalExpression op x y) h =
          let kx : (w : T × S) → HasFuel (inner id w x) = λ w. known id w x (omega (arith, h)) in
          let ky : (w : T × S) → HasFuel (inner id w y) = λ w. known id w y (omega (arith, h)) in
          search (part, done, kx, ky)
      known_layer enters w id (value.ConditionalExpression x y z) h =
          let kx : (w : T × S) → HasFuel (inner id w x) = λ w. known id w x (omega (arith, h)) in
          let ky : (w : T × S) → HasFuel (inner id w y) = λ w. known id w y (omega (arith, h)) in
          let kz : (w : T × S) → HasFuel (inner id w z) = λ w. known id w z (omega (arith, h)) in
          search (part, done, kx, ky, kz)
      known_layer enters w id (value.SequenceExpression rows own x) h =
          let kx : (w : T × S) → HasFuel (inner own w x) = λ w. known own w x (omega (arith, h)) in
          let kr : (w : T × S) → HasFuel (rows_at v functions inner w rows) =
          known_rows enters rows (omega (arith, h)) in
          search (part, done, kx, kr)
      known_layer enters w id (value.OptionalExpression x optional) h =
          let kx : (w : T × S) → HasFuel (inner id w x) = λ w. known id w x (omega (arith, h)) in
          search (part, done, kx)

      pub known_value_inside : EntersNoDeeper v → (id : EvaluationOrder) (w : T × S) (x : ReactiveValue)
          → size-ReactiveValue x ≤ n → HasFuel (value_inside v functions inner id w x)
      known_value_inside enters id w x h =
          known_layer enters w id (out-ReactiveValue x) (omega (arith, h, size_is-ReactiveValue x))

  -- more fuel than the size of a value is enough
  pub known_value_to : EntersNoDeeper v → (n : ℕ) (id : EvaluationOrder) (w : T × S) (x : ReactiveValue)
      → size-ReactiveValue x < n → HasFuel (value_to v functions n id w x)
  unfolding value_to
  known_value_to enters zero id w x h = absurd (omega (arith, h))
  known_value_to enters (suc n) id w x h =
      known_around (v.enter_value id) (value_inside v functions (value_to v functions n) id) (v.leave_value id) w x
      (λ w1 x1 a e. known_value_inside n (value_to v functions n) (known_value_to enters n) enters id w1 x1
      (omega (arith, h, enters.value id w w1 x x1 a e)))
