-- The steps of the hooks of a read walk, as one record; and the steps that change nothing.
use Rattle.std.specs.Prelude.{List, [], Ok}
use Rattle.rc_hir.specs.Operands.{value_targets}
use Rattle.rc_hir.specs.Model.{Place}
use Rattle.rc_names.specs.Numbers.{EvaluationOrder}
use Rattle.rc_tree.specs.Step.{Step, Walk}
use Rattle.rc_tree.specs.Model.{PrunedReactiveScopeBlock, ReactiveScopeBlock, ReactiveBlock, ReactiveTerminalStatement}
use Rattle.rc_tree.specs.Model.{ReactiveInstruction, ReactiveValue, Enter}
use Rattle.rc_tree.specs.declared.value.ReactiveValue.TheVariants as reactive_values
use Rattle.rc_tree.specs.declared.hooks.Enter.TheVariants.{Inside}

-- the step of each hook of a visitor
pub record ReadSteps (S : Type 0) : Type 0 where
  pub visit_id : EvaluationOrder → Walk S
  pub visit_place : EvaluationOrder → Place → Walk S
  pub visit_lvalue : EvaluationOrder → Place → Walk S
  pub visit_param : Place → Walk S
  pub enter_instruction : ReactiveInstruction → Step S Enter
  pub leave_instruction : ReactiveInstruction → Walk S
  pub enter_value : EvaluationOrder → ReactiveValue → Step S Enter
  pub leave_value : EvaluationOrder → ReactiveValue → Walk S
  pub enter_terminal : ReactiveTerminalStatement → Step S Enter
  pub leave_terminal : ReactiveTerminalStatement → Walk S
  pub enter_scope : ReactiveScopeBlock → Step S Enter
  pub leave_scope : ReactiveScopeBlock → Walk S
  pub enter_pruned_scope : PrunedReactiveScopeBlock → Step S Enter
  pub leave_pruned_scope : PrunedReactiveScopeBlock → Walk S
  pub enter_block : ReactiveBlock → Step S Enter
  pub leave_block : ReactiveBlock → Walk S

-- the steps of a visitor that changes nothing and enters every part
abbrev pub idle : {S : Type 0} → ReadSteps S
idle = record {
  visit_id = λ id s. Ok (tt, s);
  visit_place = λ id place s. Ok (tt, s);
  visit_lvalue = λ id place s. Ok (tt, s);
  visit_param = λ place s. Ok (tt, s);
  enter_instruction = λ x s. Ok (Inside, s);
  leave_instruction = λ x s. Ok (tt, s);
  enter_value = λ id x s. Ok (Inside, s);
  leave_value = λ id x s. Ok (tt, s);
  enter_terminal = λ x s. Ok (Inside, s);
  leave_terminal = λ x s. Ok (tt, s);
  enter_scope = λ x s. Ok (Inside, s);
  leave_scope = λ x s. Ok (tt, s);
  enter_pruned_scope = λ x s. Ok (Inside, s);
  leave_pruned_scope = λ x s. Ok (tt, s);
  enter_block = λ x s. Ok (Inside, s);
  leave_block = λ x s. Ok (tt, s);
}

-- the places that a row writes besides its target: those of its instruction, and none if its value is an expression
abbrev pub targets_of : ReactiveValue → List Place
targets_of (reactive_values.Instruction instruction) = value_targets instruction
targets_of _ = []
