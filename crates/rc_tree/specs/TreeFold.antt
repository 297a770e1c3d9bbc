-- Functions of a tree by one step for each kind of part: the value of a part, from the values of its own parts.
use Rattle.rc_tree.specs.Unrolled.{UnrolledStatement, UnrolledTerminal, UnrolledCase}
use Rattle.rc_tree.specs.Model.{PrunedReactiveScopeBlock, ReactiveScopeBlock, ReactiveBlock, ReactiveStatement}
use Rattle.rc_tree.specs.Model.{ReactiveSwitchCase, ReactiveTerminal, ReactiveTerminalStatement}
use Rattle.rc_tree.specs.declared.statement.ReactiveStatement.TheFolds.{fold-ReactiveStatement, fold-ReactiveTerminal}
use Rattle.rc_tree.specs.declared.statement.ReactiveStatement.TheFolds.{fold-PrunedReactiveScopeBlock}
use Rattle.rc_tree.specs.declared.statement.ReactiveStatement.TheFolds.{fold-ReactiveScopeBlock, fold-ReactiveBlock}
use Rattle.rc_tree.specs.declared.statement.ReactiveStatement.TheFolds.{fold-ReactiveSwitchCase}
use Rattle.rc_tree.specs.declared.statement.ReactiveStatement.TheFolds.{fold-ReactiveTerminalStatement}
use Rattle.rc_tree.specs.declared.statement.ReactiveStatement.TheFolds.{map-ReactiveStatement, map-ReactiveTerminal}
use Rattle.rc_tree.specs.declared.statement.ReactiveStatement.TheFolds.{map-ReactiveSwitchCase}
use Rattle.rc_tree.specs.declared.statement.ReactiveStatement.TheOpen.{ReactiveStatement-F, ReactiveTerminal-F}
use Rattle.rc_tree.specs.declared.statement.ReactiveStatement.TheOpen.{PrunedReactiveScopeBlock-F, ReactiveScopeBlock-F}
use Rattle.rc_tree.specs.declared.statement.ReactiveStatement.TheOpen.{ReactiveBlock-F, ReactiveSwitchCase-F}
use Rattle.rc_tree.specs.declared.statement.ReactiveStatement.TheOpen.{ReactiveTerminalStatement-F}

-- the step of each kind of part, which takes the values of its parts to its own value
pub record TreeFold (S T P C B K L : Type 0) : Type 0 where
  pub statement : ReactiveStatement-F S T P C B K L → S
  pub terminal : ReactiveTerminal-F S T P C B K L → T
  pub pruned_scope : PrunedReactiveScopeBlock-F S T P C B K L → P
  pub scope : ReactiveScopeBlock-F S T P C B K L → C
  pub block : ReactiveBlock-F S T P C B K L → B
  pub case : ReactiveSwitchCase-F S T P C B K L → K
  -- a terminal with its label
  pub labeled : ReactiveTerminalStatement-F S T P C B K L → L

module _ {S T P C B K L : Type 0} (f : TreeFold S T P C B K L) where
  -- the value of each kind of part
  abbrev pub over_statement : ReactiveStatement → S
  over_statement =
      fold-ReactiveStatement S T P C B K L f.statement f.terminal f.pruned_scope f.scope f.block f.case f.labeled

  abbrev pub over_terminal : ReactiveTerminal → T
  over_terminal =
      fold-ReactiveTerminal S T P C B K L f.statement f.terminal f.pruned_scope f.scope f.block f.case f.labeled

  abbrev pub over_pruned_scope : PrunedReactiveScopeBlock → P
  over_pruned_scope =
      fold-PrunedReactiveScopeBlock S T P C B K L f.statement f.terminal f.pruned_scope f.scope f.block f.case
      f.labeled

  abbrev pub over_scope : ReactiveScopeBlock → C
  over_scope =
      fold-ReactiveScopeBlock S T P C B K L f.statement f.terminal f.pruned_scope f.scope f.block f.case f.labeled

  abbrev pub over_block : ReactiveBlock → B
  over_block = fold-ReactiveBlock S T P C B K L f.statement f.terminal f.pruned_scope f.scope f.block f.case f.labeled

  abbrev pub over_case : ReactiveSwitchCase → K
  over_case =
      fold-ReactiveSwitchCase S T P C B K L f.statement f.terminal f.pruned_scope f.scope f.block f.case f.labeled

  abbrev pub over_labeled : ReactiveTerminalStatement → L
  over_labeled =
      fold-ReactiveTerminalStatement S T P C B K L f.statement f.terminal f.pruned_scope f.scope f.block f.case
      f.labeled

  -- a statement, a terminal and a case of a switch by their variants, with the value of each part in the place of that
  -- part
  abbrev pub parts_of_statement : UnrolledStatement → ReactiveStatement-F S T P C B K L
  parts_of_statement =
      map-ReactiveStatement ReactiveStatement ReactiveTerminal PrunedReactiveScopeBlock ReactiveScopeBlock ReactiveBlock
      ReactiveSwitchCase ReactiveTerminalStatement S T P C B K L
      over_statement over_terminal over_pruned_scope over_scope over_block over_case over_labeled

  abbrev pub parts_of_terminal : UnrolledTerminal → ReactiveTerminal-F S T P C B K L
  parts_of_terminal =
      map-ReactiveTerminal ReactiveStatement ReactiveTerminal PrunedReactiveScopeBlock ReactiveScopeBlock ReactiveBlock
      ReactiveSwitchCase ReactiveTerminalStatement S T P C B K L
      over_statement over_terminal over_pruned_scope over_scope over_block over_case over_labeled

  abbrev pub parts_of_case : UnrolledCase → ReactiveSwitchCase-F S T P C B K L
  parts_of_case =
      map-ReactiveSwitchCase ReactiveStatement ReactiveTerminal PrunedReactiveScopeBlock ReactiveScopeBlock
      ReactiveBlock ReactiveSwitchCase ReactiveTerminalStatement S T P C B K L
      over_statement over_terminal over_pruned_scope over_scope over_block over_case over_labeled
