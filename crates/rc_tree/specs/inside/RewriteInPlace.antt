-- The rewriting walk of a statement in two steps: the walk of its part, which changes the statement in its place, and
-- then its `transform_` step, whose replacement is appended to a list.
use Rattle.std.specs.Prelude.{List, ◌++◌, Result, Ok}
use Rattle.rc_hir.specs.Model.{Fault, HirFunction}
use Rattle.rc_tree.specs.Unrolled.{UnrolledStatement}
use Rattle.rc_tree.specs.Step as outcome
use Rattle.rc_tree.specs.Fuel.{Fueled, Done, bind, after, Hook, FueledWalk}
use Rattle.rc_tree.specs.Rewrite.{in_place, scope_at, pruned_scope_at}
use Rattle.rc_tree.specs.Rewrite.Terminals.{terminal_at}
use Rattle.rc_tree.specs.Rewrite.Values.{rewrite_instruction}
use Rattle.rc_tree.specs.RewriteSteps.{RewriteSteps}
use Rattle.rc_tree.specs.Model.{ReactiveBlock, Transformed}
use Rattle.rc_tree.specs.declared.statement.ReactiveStatement.{ReactiveStatement, out-ReactiveStatement}
use Rattle.rc_tree.specs.declared.statement.ReactiveStatement.TheOpen as layer
use Rattle.rc_tree.specs.declared.statement.ReactiveStatement.TheVariants as reactive

module _ {W : Type 0} (v : RewriteSteps W) where
  -- the `transform_` step of each form
  abbrev pub answer_layer : W → UnrolledStatement → Result (Transformed ReactiveStatement
      × (W × ReactiveStatement)) Fault
  answer_layer w (layer.Instruction x) =
      outcome.bind (v.transform_instruction w x) (λ a. Ok (a.0, (a.1.0, reactive.Instruction a.1.1)))
  answer_layer w (layer.Terminal x) =
      outcome.bind (v.transform_terminal w x) (λ a. Ok (a.0, (a.1.0, reactive.Terminal a.1.1)))
  answer_layer w (layer.Scope x) = outcome.bind (v.transform_scope w x) (λ a. Ok (a.0, (a.1.0, reactive.Scope a.1.1)))
  answer_layer w (layer.PrunedScope x) =
      outcome.bind (v.transform_pruned_scope w x) (λ a. Ok (a.0, (a.1.0, reactive.PrunedScope a.1.1)))

  -- the `transform_` step of a statement, by its form
  abbrev pub answer_at : Hook W ReactiveStatement (Transformed ReactiveStatement)
  answer_at w x = answer_layer w (out-ReactiveStatement x)

  -- a statement's `transform_` step, whose replacement is appended to the statements that are done
  abbrev pub put_at : W → List ReactiveStatement → ReactiveStatement
      → Result (Unit {0} × (W × List ReactiveStatement)) Fault
  put_at w done x = outcome.bind (answer_at w x) (λ a. Ok (tt, (a.1.0, done ++ in_place a.0 a.1.1)))

module _ {T S : Type 0} (v : RewriteSteps (T × S)) (functions : T → List HirFunction)
    (inner : FueledWalk (T × S) ReactiveBlock) where
  -- the walk of the part of each form
  abbrev pub held_layer : (T × S) → UnrolledStatement → Fueled (Unit {0} × ((T × S) × ReactiveStatement))
  held_layer w (layer.Instruction x) =
      after (rewrite_instruction v functions w x) (λ a. Done (tt, (a.1.0, reactive.Instruction a.1.1)))
  held_layer w (layer.Terminal x) =
      bind (terminal_at v functions inner w x) (λ a. Done (tt, (a.1.0, reactive.Terminal a.1.1)))
  held_layer w (layer.Scope x) = bind (scope_at v functions inner w x) (λ a. Done (tt, (a.1.0, reactive.Scope a.1.1)))
  held_layer w (layer.PrunedScope x) =
      bind (pruned_scope_at v functions inner w x) (λ a. Done (tt, (a.1.0, reactive.PrunedScope a.1.1)))

  -- the walk of a statement's part, by its form
  abbrev pub held_at : FueledWalk (T × S) ReactiveStatement
  held_at w x = held_layer w (out-ReactiveStatement x)
