-- The steps of a pass over statements refine its rules.
use Rattle.std.specs.Prelude.{◌≡◌, [], ◌∷◌, Ok}
use Rattle.rc_tree.specs.inside.Refines.{BlockAgrees, StepAgrees}
use Rattle.rc_tree.specs.Rebuilt.{Rules}
use Rattle.rc_tree.specs.StatementSteps.{StatementSteps}
use Rattle.rc_tree.specs.Model.{PrunedReactiveScopeBlock, ReactiveBlock, ReactiveInstruction, ReactiveScopeBlock}
use Rattle.rc_tree.specs.Model.{ReactiveTerminalStatement}
use Rattle.rc_tree.specs.declared.statement.ReactiveStatement.TheVariants as reactive

-- `at r s` is the walk's state that represents the pass's state `s` below the stack `r`; `inner r s` is the stack
-- inside a scope block that is entered there
pub record StatementsRefine {S R St : Type 0} (rules : Rules S) (steps : StatementSteps St) (at : R → S → St)
    (inner : R → S → R) : Type 0 where
  -- rows and pruned scope blocks stay
  pub row : (s : S) (x : ReactiveInstruction) → rules.row x s ≡ Ok (s, reactive.Instruction x ∷ [])
  pub pruned_scope : (s : S) (x : PrunedReactiveScopeBlock) → rules.pruned_scope x s
      ≡ Ok (s, reactive.PrunedScope x ∷ [])
  -- a scope block is entered with the state at the start of its inside
  pub enter_scope : (r : R) (s : S) (x : ReactiveScopeBlock)
      → steps.enter_scope x (at r s) ≡ Ok (tt, at (inner r s) (rules.into_scope x.scope s))
  -- the last steps agree with the rules
  pub terminal : (r : R) (s : S) (x : ReactiveTerminalStatement)
      → StepAgrees (at r) reactive.Terminal (rules.terminal x s) (steps.transform_terminal (at r s) x)
  pub scope : (r : R) (met s : S) (x : ReactiveScopeBlock)
      → StepAgrees (at r) reactive.Scope (rules.scope met x s) (steps.transform_scope (at (inner r met) s) x)
  pub block : (r : R) (s : S) (x : ReactiveBlock)
      → BlockAgrees (at r) (rules.block x.statements s) (steps.leave_block (at r s) x)
