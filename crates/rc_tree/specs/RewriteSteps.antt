-- The steps of the hooks of a rewriting walk, as one record; the steps that change nothing; and the condition on enter
-- steps.
use Rattle.std.specs.Prelude.{◌≡◌, ◌≤◌, ℕ, Ok}
use Rattle.rc_hir.specs.Model.{Place}
use Rattle.rc_names.specs.Numbers.{EvaluationOrder}
use Rattle.rc_tree.specs.Step.{Walk}
use Rattle.rc_tree.specs.Fuel.{Hook}
use Rattle.rc_tree.specs.Model.{PrunedReactiveScopeBlock, ReactiveStatement, ReactiveTerminalStatement, Transformed}
use Rattle.rc_tree.specs.Model.{Enter}
use Rattle.rc_tree.specs.declared.scope.PrunedReactiveScopeBlock.{size-PrunedReactiveScopeBlock}
use Rattle.rc_tree.specs.declared.scope.ReactiveScopeBlock.{ReactiveScopeBlock, size-ReactiveScopeBlock}
use Rattle.rc_tree.specs.declared.statement.ReactiveBlock.{ReactiveBlock, size-ReactiveBlock}
use Rattle.rc_tree.specs.declared.terminal.ReactiveTerminalStatement.{size-ReactiveTerminalStatement}
use Rattle.rc_tree.specs.declared.hooks.Transformed.TheVariants.{Keep}
use Rattle.rc_tree.specs.declared.value.ReactiveInstruction.{ReactiveInstruction, size-ReactiveInstruction}
use Rattle.rc_tree.specs.declared.value.ReactiveValue.{ReactiveValue, size-ReactiveValue}
use Rattle.rc_tree.specs.declared.hooks.Enter.TheVariants.{Inside, Skip}

-- the step of each hook of a transform; the world is the transform with the state
pub record RewriteSteps (W : Type 0) : Type 0 where
  pub visit_id : EvaluationOrder → Walk W
  pub visit_place : EvaluationOrder → Place → Walk W
  pub visit_lvalue : EvaluationOrder → Place → Walk W
  pub enter_instruction : Hook W ReactiveInstruction Enter
  pub leave_instruction : Hook W ReactiveInstruction (Unit {0})
  pub enter_value : EvaluationOrder → Hook W ReactiveValue Enter
  pub leave_value : EvaluationOrder → Hook W ReactiveValue (Unit {0})
  pub enter_terminal : Hook W ReactiveTerminalStatement Enter
  pub leave_terminal : Hook W ReactiveTerminalStatement (Unit {0})
  pub enter_scope : Hook W ReactiveScopeBlock Enter
  pub leave_scope : Hook W ReactiveScopeBlock (Unit {0})
  pub enter_pruned_scope : Hook W PrunedReactiveScopeBlock Enter
  pub leave_pruned_scope : Hook W PrunedReactiveScopeBlock (Unit {0})
  pub enter_block : Hook W ReactiveBlock Enter
  pub leave_block : Hook W ReactiveBlock (Unit {0})
  pub transform_instruction : Hook W ReactiveInstruction (Transformed ReactiveStatement)
  pub transform_terminal : Hook W ReactiveTerminalStatement (Transformed ReactiveStatement)
  pub transform_scope : Hook W ReactiveScopeBlock (Transformed ReactiveStatement)
  pub transform_pruned_scope : Hook W PrunedReactiveScopeBlock (Transformed ReactiveStatement)

module _ {W : Type 0} where
  -- an enter step that goes inside, and one that skips
  abbrev pub goes_inside : {X : Type 0} → Hook W X Enter
  goes_inside w x = Ok (Inside, (w, x))

  abbrev pub skips : {X : Type 0} → Hook W X Enter
  skips w x = Ok (Skip, (w, x))

  -- a leave step that changes nothing
  abbrev pub does_nothing : {X : Type 0} → Hook W X (Unit {0})
  does_nothing w x = Ok (tt, (w, x))

  -- a `transform_` step that keeps its statement
  abbrev pub keeps_it : {X : Type 0} → Hook W X (Transformed ReactiveStatement)
  keeps_it w x = Ok (Keep, (w, x))

  -- the steps of a transform that changes nothing, enters every part and keeps every statement
  abbrev pub idle : RewriteSteps W
  idle = record {
    visit_id = λ id w. Ok (tt, w);
    visit_place = λ id place w. Ok (tt, w);
    visit_lvalue = λ id place w. Ok (tt, w);
    enter_instruction = goes_inside;
    leave_instruction = does_nothing;
    enter_value = λ id. goes_inside;
    leave_value = λ id. does_nothing;
    enter_terminal = goes_inside;
    leave_terminal = does_nothing;
    enter_scope = goes_inside;
    leave_scope = does_nothing;
    enter_pruned_scope = goes_inside;
    leave_pruned_scope = does_nothing;
    enter_block = goes_inside;
    leave_block = does_nothing;
    transform_instruction = keeps_it;
    transform_terminal = keeps_it;
    transform_scope = keeps_it;
    transform_pruned_scope = keeps_it;
  }

  -- a step doesn't make its part deeper
  abbrev pub NoDeeper : {X : Type 0} → (X → ℕ) → Hook W X Enter → Type 0
  NoDeeper {X} size step = (w w1 : W) (x x1 : X) (answer : Enter) → step w x ≡ Ok (answer, (w1, x1)) → size x1 ≤ size x

-- no enter step makes its part deeper, so that the walk ends
pub record EntersNoDeeper {W : Type 0} (v : RewriteSteps W) : Type 0 where
  pub instruction : NoDeeper size-ReactiveInstruction v.enter_instruction
  pub value : (id : EvaluationOrder) → NoDeeper size-ReactiveValue (v.enter_value id)
  pub terminal : NoDeeper size-ReactiveTerminalStatement v.enter_terminal
  pub scope : NoDeeper size-ReactiveScopeBlock v.enter_scope
  pub pruned_scope : NoDeeper size-PrunedReactiveScopeBlock v.enter_pruned_scope
  pub block : NoDeeper size-ReactiveBlock v.enter_block
