-- The fold of a tree at each kind of part, from the values of that part's own parts.
use Rattle.std.proofs.Common.{◌≡◌, map}
use Rattle.rc_tree.specs.Unrolled.{UnrolledStatement, UnrolledTerminal, UnrolledCase}
use Rattle.rc_tree.specs.TreeFold.{TreeFold, over_statement, over_terminal, over_pruned_scope, over_scope, over_block}
use Rattle.rc_tree.specs.TreeFold.{over_case, over_labeled, parts_of_statement, parts_of_terminal, parts_of_case}
use Rattle.rc_tree.specs.Model.{PrunedReactiveScopeBlock, ReactiveScopeBlock, ReactiveBlock, ReactiveTerminalStatement}
use Rattle.rc_tree.specs.declared.statement.ReactiveStatement.TheFolds.{fold-roll-ReactiveStatement}
use Rattle.rc_tree.specs.declared.statement.ReactiveStatement.TheFolds.{fold-roll-ReactiveTerminal}
use Rattle.rc_tree.specs.declared.statement.ReactiveStatement.TheFolds.{fold-roll-PrunedReactiveScopeBlock}
use Rattle.rc_tree.specs.declared.statement.ReactiveStatement.TheFolds.{fold-roll-ReactiveScopeBlock}
use Rattle.rc_tree.specs.declared.statement.ReactiveStatement.TheFolds.{fold-roll-ReactiveBlock}
use Rattle.rc_tree.specs.declared.statement.ReactiveStatement.TheFolds.{fold-roll-ReactiveSwitchCase}
use Rattle.rc_tree.specs.declared.statement.ReactiveStatement.TheFolds.{fold-roll-ReactiveTerminalStatement}
use Rattle.rc_tree.specs.declared.statement.ReactiveStatement.TheViews.{roll-ReactiveStatement, roll-ReactiveTerminal}
use Rattle.rc_tree.specs.declared.statement.ReactiveStatement.TheViews.{roll-ReactiveSwitchCase}

module _ {S T P C B K L : Type 0} (f : TreeFold S T P C B K L) where
  pub over_statement-roll : (x : UnrolledStatement)
      → over_statement f (roll-ReactiveStatement x) ≡ f.statement (parts_of_statement f x)
  over_statement-roll =
      fold-roll-ReactiveStatement S T P C B K L f.statement f.terminal f.pruned_scope f.scope f.block f.case f.labeled

  pub over_terminal-roll : (x : UnrolledTerminal)
      → over_terminal f (roll-ReactiveTerminal x) ≡ f.terminal (parts_of_terminal f x)
  over_terminal-roll =
      fold-roll-ReactiveTerminal S T P C B K L f.statement f.terminal f.pruned_scope f.scope f.block f.case f.labeled

  pub over_case-roll : (x : UnrolledCase) → over_case f (roll-ReactiveSwitchCase x) ≡ f.case (parts_of_case f x)
  over_case-roll =
      fold-roll-ReactiveSwitchCase S T P C B K L f.statement f.terminal f.pruned_scope f.scope f.block f.case f.labeled

  pub over_pruned_scope-parts : (x : PrunedReactiveScopeBlock) → over_pruned_scope f x
      ≡ f.pruned_scope (record { scope = x.scope; instructions = over_block f x.instructions })
  over_pruned_scope-parts x =
      fold-roll-PrunedReactiveScopeBlock S T P C B K L f.statement f.terminal f.pruned_scope f.scope f.block f.case
      f.labeled (record { scope = x.scope; instructions = x.instructions })

  pub over_scope-parts : (x : ReactiveScopeBlock) → over_scope f x
      ≡ f.scope (record { scope = x.scope; instructions = over_block f x.instructions })
  over_scope-parts x =
      fold-roll-ReactiveScopeBlock S T P C B K L f.statement f.terminal f.pruned_scope f.scope f.block f.case f.labeled
      (record { scope = x.scope; instructions = x.instructions })

  pub over_block-parts : (x : ReactiveBlock) → over_block f x
      ≡ f.block (record { statements = map (over_statement f) x.statements })
  over_block-parts x =
      fold-roll-ReactiveBlock S T P C B K L f.statement f.terminal f.pruned_scope f.scope f.block f.case f.labeled
      (record { statements = x.statements })

  pub over_labeled-parts : (x : ReactiveTerminalStatement) → over_labeled f x
      ≡ f.labeled (record { terminal = over_terminal f x.terminal; label = x.label })
  over_labeled-parts x =
      fold-roll-ReactiveTerminalStatement S T P C B K L f.statement f.terminal f.pruned_scope f.scope f.block f.case
      f.labeled (record { terminal = x.terminal; label = x.label })
