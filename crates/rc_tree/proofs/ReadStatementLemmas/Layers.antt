-- The read walk of a statement and of a terminal is the step of its layer, each part in it with the walk of its inside.
use Rattle.std.proofs.Common.{◌≡◌, List, ap}
use Rattle.rc_hir.specs.Model.{HirFunction}
use Rattle.rc_tree.specs.Unrolled.{UnrolledStatement, UnrolledTerminal}
use Rattle.rc_tree.specs.Step.{Walk}
use Rattle.rc_tree.specs.ReadSteps.{ReadSteps}
use Rattle.rc_tree.specs.Read.{OfStatement, OfParts, OfPruned, OfScope, OfBlock, OfCase, OfTerminal, statement_step}
use Rattle.rc_tree.specs.Read.{parts_step, pruned_step, scope_step, block_step, case_step, terminal_step}
use Rattle.rc_tree.specs.Read.{read_statement, read_parts, read_case, inside_block, inside_scope, inside_pruned_scope}
use Rattle.rc_tree.specs.Read.{inside_terminal}
use Rattle.rc_tree.specs.Read.Values.{WalkAt}
use Rattle.rc_tree.specs.Model.{PrunedReactiveScopeBlock, ReactiveScopeBlock, ReactiveBlock, ReactiveStatement}
use Rattle.rc_tree.specs.Model.{ReactiveSwitchCase, ReactiveTerminal, ReactiveTerminalStatement}
use Rattle.rc_tree.specs.declared.statement.ReactiveStatement.TheOpen as layer
use Rattle.rc_tree.specs.declared.statement.ReactiveStatement.TheViews.{roll-ReactiveTerminal, roll-ReactiveStatement}
use Rattle.rc_tree.specs.declared.statement.ReactiveStatement.TheFolds.{map-ReactiveTerminal, map-ReactiveStatement}
use Rattle.rc_tree.specs.declared.statement.ReactiveStatement.TheFolds.{para-roll-ReactiveStatement}
use Rattle.rc_tree.specs.declared.statement.ReactiveStatement.TheFolds.{para-roll-ReactiveTerminal}

module _ {S : Type 0} (v : ReadSteps S) (functions : List HirFunction) where
  -- a form of a terminal, where each part has the walk of its inside
  abbrev pub walked_parts : UnrolledTerminal
      → layer.ReactiveTerminal-F (OfStatement v functions) (OfParts v functions) (OfPruned v functions)
      (OfScope v functions) (OfBlock v functions) (OfCase v functions) (OfTerminal v functions)
  walked_parts = map-ReactiveTerminal ReactiveStatement ReactiveTerminal PrunedReactiveScopeBlock ReactiveScopeBlock
      ReactiveBlock ReactiveSwitchCase ReactiveTerminalStatement
      (OfStatement v functions) (OfParts v functions) (OfPruned v functions) (OfScope v functions) (OfBlock v functions)
      (OfCase v functions) (OfTerminal v functions)
      (λ y. (y, read_statement v functions y)) (λ y. (y, read_parts v functions y))
      (λ y. (y, inside_pruned_scope v functions y)) (λ y. (y, inside_scope v functions y))
      (λ y. (y, inside_block v functions y)) (λ y. (y, read_case v functions y))
      (λ y. (y, inside_terminal v functions y))

  abbrev pub walked_statement : UnrolledStatement
      → layer.ReactiveStatement-F (OfStatement v functions) (OfParts v functions) (OfPruned v functions)
      (OfScope v functions) (OfBlock v functions) (OfCase v functions) (OfTerminal v functions)
  walked_statement = map-ReactiveStatement ReactiveStatement ReactiveTerminal PrunedReactiveScopeBlock
      ReactiveScopeBlock ReactiveBlock ReactiveSwitchCase ReactiveTerminalStatement
      (OfStatement v functions) (OfParts v functions) (OfPruned v functions) (OfScope v functions) (OfBlock v functions)
      (OfCase v functions) (OfTerminal v functions)
      (λ y. (y, read_statement v functions y)) (λ y. (y, read_parts v functions y))
      (λ y. (y, inside_pruned_scope v functions y)) (λ y. (y, inside_scope v functions y))
      (λ y. (y, inside_block v functions y)) (λ y. (y, read_case v functions y))
      (λ y. (y, inside_terminal v functions y))

  -- the walk of a part is the step of its form
  pub opened_parts : (x : UnrolledTerminal) (s : S) → read_parts v functions (roll-ReactiveTerminal x) s
      ≡ parts_step v functions (walked_parts x) s
  unfolding read_statement read_parts inside_pruned_scope inside_scope inside_block read_case inside_terminal
  opened_parts x s = ap (λ f. f s) (para-roll-ReactiveTerminal (Walk S) (Walk S) (Walk S) (Walk S) (Walk S)
      (WalkAt S) (Walk S) (statement_step v functions) (parts_step v functions) (pruned_step v functions)
      (scope_step v functions) (block_step v functions) (case_step v functions) (terminal_step v functions) x)

  pub opened_statement : (x : UnrolledStatement) (s : S) → read_statement v functions (roll-ReactiveStatement x) s
      ≡ statement_step v functions (walked_statement x) s
  unfolding read_statement read_parts inside_pruned_scope inside_scope inside_block read_case inside_terminal
  opened_statement x s = ap (λ f. f s) (para-roll-ReactiveStatement (Walk S) (Walk S) (Walk S) (Walk S) (Walk S)
      (WalkAt S) (Walk S) (statement_step v functions) (parts_step v functions) (pruned_step v functions)
      (scope_step v functions) (block_step v functions) (case_step v functions) (terminal_step v functions) x)
