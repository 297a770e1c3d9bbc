-- Parts of a tree by their variants: the result of `out-` on a part, by which equations go case by case.
use Rattle.rc_tree.specs.Model.{ReactiveBlock, ReactiveStatement, PrunedReactiveScopeBlock, ReactiveScopeBlock}
use Rattle.rc_tree.specs.Model.{ReactiveSwitchCase, ReactiveTerminal, ReactiveTerminalStatement}
use Rattle.rc_tree.specs.declared.statement.ReactiveStatement.TheOpen.{ReactiveStatement-F, ReactiveSwitchCase-F}
use Rattle.rc_tree.specs.declared.statement.ReactiveStatement.TheOpen.{ReactiveTerminal-F}

-- a statement's variant, with its parts
abbrev pub UnrolledStatement : Type 0
UnrolledStatement = ReactiveStatement-F ReactiveStatement ReactiveTerminal PrunedReactiveScopeBlock ReactiveScopeBlock
    ReactiveBlock ReactiveSwitchCase ReactiveTerminalStatement

-- a terminal's variant, with its parts
abbrev pub UnrolledTerminal : Type 0
UnrolledTerminal = ReactiveTerminal-F ReactiveStatement ReactiveTerminal PrunedReactiveScopeBlock ReactiveScopeBlock
    ReactiveBlock ReactiveSwitchCase ReactiveTerminalStatement

-- a case of a switch, with its parts
abbrev pub UnrolledCase : Type 0
UnrolledCase = ReactiveSwitchCase-F ReactiveStatement ReactiveTerminal PrunedReactiveScopeBlock ReactiveScopeBlock
    ReactiveBlock ReactiveSwitchCase ReactiveTerminalStatement
