-- The rewriting walk of a statement is the walk of its part, and then its `transform_` step.
use Rattle.std.proofs.Common.{◌≡◌, ◌∙◌, List, ◌++◌, Result, Ok, Err, refl, sym, ap, subst}
use Rattle.rc_hir.specs.Model.{Fault, HirFunction}
use Rattle.rc_tree.proofs.FuelLemmas.{meets_next, meets_fault, meets_last}
use Rattle.rc_tree.specs.Unrolled.{UnrolledStatement}
use Rattle.rc_tree.specs.Step.{IsStep}
use Rattle.rc_tree.specs.Step as outcome
use Rattle.rc_tree.specs.Fuel.{Fueled, OutOfFuel, Failed, Done, bind, after, last, Hook, FueledWalk}
use Rattle.rc_tree.specs.inside.EnoughFuel.{IsFueled}
use Rattle.rc_tree.specs.Rewrite.{in_place, scope_at, pruned_scope_at, statement_layer, statement_at, into_at}
use Rattle.rc_tree.specs.Rewrite.Terminals.{terminal_at}
use Rattle.rc_tree.specs.Rewrite.Values.{rewrite_instruction}
use Rattle.rc_tree.specs.inside.RewriteInPlace.{answer_layer, answer_at, put_at, held_layer, held_at}
use Rattle.rc_tree.specs.RewriteSteps.{RewriteSteps}
use Rattle.rc_tree.specs.Model.{ReactiveBlock, Transformed}
use Rattle.rc_tree.specs.declared.statement.ReactiveStatement.{ReactiveStatement, out-ReactiveStatement}
use Rattle.rc_tree.specs.declared.statement.ReactiveStatement.TheOpen as layer
use Rattle.rc_tree.specs.declared.statement.ReactiveStatement.TheVariants as reactive

-- using the result of the last step later is the same as using it at once
step_behind : {W X Y A B : Type 0} (h : Fueled (Unit {0} × (W × X))) (step : W → X → Result (A × Y) Fault)
    (make : A × Y → B)
    → bind (bind h (λ a. last (step a.1.0 a.1.1))) (λ a. Done (make a))
    ≡ bind h (λ a. last (outcome.bind (step a.1.0 a.1.1) (λ b. Ok (make b))))
step_behind OutOfFuel step make = refl
step_behind (Failed fault) step make = refl
step_behind {Y = Y} {A = A} (Done d) step make = by (step d.1.0 d.1.1)
  where
    by : (r : Result (A × Y) Fault) → bind (last r) (λ a. Done (make a)) ≡ last (outcome.bind r (λ b. Ok (make b)))
    by (Ok a) = refl
    by (Err fault) = refl

-- a part's walk and then its step, or the walk of the whole and then the step of the whole
module _ {W X Y A : Type 0} (make : Y → X) (step : Hook W Y A) (answer : Hook W X A) where
  -- the result of a step, with the whole that is made of the part
  abbrev answered : A × (W × Y) → A × (W × X)
  answered b = (b.0, (b.1.0, make b.1.1))

  abbrev walked : Unit {0} × (W × Y) → Unit {0} × (W × X)
  walked a = (tt, (a.1.0, make a.1.1))

  last_answered : (r : Result (A × (W × Y)) Fault)
      → after r (λ b. Done (answered b)) ≡ last (outcome.bind r (λ b. Ok (answered b)))
  last_answered (Ok b) = refl
  last_answered (Err fault) = refl

  module _ (agree : (w : W) (y : Y) → answer w (make y) ≡ outcome.bind (step w y) (λ b. Ok (answered b))) where
    part_asked : (p : Fueled (Unit {0} × (W × Y))) → bind p (λ a. after (step a.1.0 a.1.1) (λ b. Done (answered b)))
        ≡ bind (bind p (λ a. Done (walked a))) (λ a. last (answer a.1.0 a.1.1))
    part_asked OutOfFuel = refl
    part_asked (Failed fault) = refl
    part_asked (Done d) = last_answered (step d.1.0 d.1.1) ∙ ap last (sym (agree d.1.0 d.1.1))

    row_asked : (r : Result (Unit {0} × (W × Y)) Fault)
        → after r (λ a. after (step a.1.0 a.1.1) (λ b. Done (answered b)))
        ≡ bind (after r (λ a. Done (walked a))) (λ a. last (answer a.1.0 a.1.1))
    row_asked (Ok d) = part_asked (Done d)
    row_asked (Err fault) = refl

module _ {T S : Type 0} (v : RewriteSteps (T × S)) (functions : T → List HirFunction)
    (inner : FueledWalk (T × S) ReactiveBlock) where
  layer_asked : (w : T × S) (l : UnrolledStatement)
      → statement_layer v functions inner w l
      ≡ bind (held_layer v functions inner w l) (λ a. last (answer_at v a.1.0 a.1.1))
  layer_asked w (layer.Instruction x) =
      row_asked reactive.Instruction v.transform_instruction (answer_at v)
      (λ w y. ap (answer_layer v w) (reactive.outs-Instruction y))
      (rewrite_instruction v functions w x)
  layer_asked w (layer.Terminal x) =
      part_asked reactive.Terminal v.transform_terminal (answer_at v)
      (λ w y. ap (answer_layer v w) (reactive.outs-Terminal y))
      (terminal_at v functions inner w x)
  layer_asked w (layer.Scope x) =
      part_asked reactive.Scope v.transform_scope (answer_at v) (λ w y. ap (answer_layer v w) (reactive.outs-Scope y))
      (scope_at v functions inner w x)
  layer_asked w (layer.PrunedScope x) =
      part_asked reactive.PrunedScope v.transform_pruned_scope (answer_at v)
      (λ w y. ap (answer_layer v w) (reactive.outs-PrunedScope y))
      (pruned_scope_at v functions inner w x)

  statement_asked : (w : T × S) (x : ReactiveStatement)
      → statement_at v functions inner w x ≡ bind (held_at v functions inner w x) (λ a. last (answer_at v a.1.0 a.1.1))
  statement_asked w x = layer_asked w (out-ReactiveStatement x)

  into_put : (w : T × S) (done : List ReactiveStatement) (x : ReactiveStatement)
      → into_at v functions inner w done x
      ≡ bind (held_at v functions inner w x) (λ a. last (put_at v a.1.0 done a.1.1))
  unfolding into_at
  into_put w done x =
      ap (λ r. bind r (λ a. Done (tt, (a.1.0, done ++ in_place a.0 a.1.1)))) (statement_asked w x)
      ∙ step_behind (held_at v functions inner w x) (answer_at v) (λ a. (tt, (a.1.0, done ++ in_place a.0 a.1.1)))

  -- the part of a statement was walked, and then its `transform_` step succeeds or fails
  pub meets_asked : (w w1 : T × S) (x x1 : ReactiveStatement) (r : Result (Transformed ReactiveStatement) Fault)
      (t : (T × S) × ReactiveStatement)
      → IsFueled (held_at v functions inner w x) (Ok tt) (w1, x1) → IsStep (answer_at v w1 x1) r t
      → IsFueled (statement_at v functions inner w x) r t
  meets_asked w w1 x x1 r t h k =
      subst (λ q. IsFueled q r t) (sym (statement_asked w x))
      (meets_next (held_at v functions inner w x) (λ a. last (answer_at v a.1.0 a.1.1)) tt (w1, x1) r t h
      (meets_last (answer_at v w1 x1) r t k))

  -- the walk of the part fails
  pub meets_asked_fault : (w : T × S) (x : ReactiveStatement) (fault : Fault) (s t : (T × S) × ReactiveStatement)
      → IsFueled (held_at v functions inner w x) (Err fault) s
      → IsFueled (statement_at v functions inner w x) (Err fault) t
  meets_asked_fault w x fault s t h =
      subst (λ q. IsFueled q (Err fault) t) (sym (statement_asked w x))
      (meets_fault (held_at v functions inner w x) (λ a. last (answer_at v a.1.0 a.1.1)) fault s t h)

  -- the same, with the replacement appended to the statements that are done
  pub meets_put : (w w1 : T × S) (done : List ReactiveStatement) (x x1 : ReactiveStatement)
      (r : Result (Unit {0}) Fault)
      (t : (T × S) × List ReactiveStatement) → IsFueled (held_at v functions inner w x) (Ok tt) (w1, x1)
      → IsStep (put_at v w1 done x1) r t → IsFueled (into_at v functions inner w done x) r t
  meets_put w w1 done x x1 r t h k =
      subst (λ q. IsFueled q r t) (sym (into_put w done x))
      (meets_next (held_at v functions inner w x) (λ a. last (put_at v a.1.0 done a.1.1)) tt (w1, x1) r t h
      (meets_last (put_at v w1 done x1) r t k))

  pub meets_put_fault : (w : T × S) (done : List ReactiveStatement) (x : ReactiveStatement) (fault : Fault)
      (s : (T × S) × ReactiveStatement) (t : (T × S) × List ReactiveStatement)
      → IsFueled (held_at v functions inner w x) (Err fault) s
      → IsFueled (into_at v functions inner w done x) (Err fault) t
  meets_put_fault w done x fault s t h =
      subst (λ q. IsFueled q (Err fault) t) (sym (into_put w done x))
      (meets_fault (held_at v functions inner w x) (λ a. last (put_at v a.1.0 done a.1.1)) fault s t h)
