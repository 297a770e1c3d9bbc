-- The types of a flat function, by one import.
use Rattle.rc_flat.specs.declared.function.FlatFunction.{FlatFunction as TheFlatFunction}
use Rattle.rc_flat.specs.declared.statement.FlatScopeBlock.{FlatScopeBlock as TheFlatScopeBlock}
use Rattle.rc_flat.specs.declared.statement.FlatStatement.{FlatStatement as TheFlatStatement}
use Rattle.rc_flat.specs.declared.terminal.FlatSwitchCase.{FlatSwitchCase as TheFlatSwitchCase}
use Rattle.rc_flat.specs.declared.terminal.FlatTerminal.{FlatTerminal as TheFlatTerminal}
use Rattle.rc_flat.specs.declared.terminal.FlatTerminalStatement.{FlatTerminalStatement as TheFlatTerminalStatement}
use Rattle.rc_flat.specs.declared.value.FlatInstruction.{FlatInstruction as TheFlatInstruction}
use Rattle.rc_flat.specs.declared.value.FlatValue.{FlatValue as TheFlatValue}
use Rattle.rc_flat.specs.declared.value.NestedValue.{NestedValue as TheNestedValue}

abbrev pub FlatFunction : Type 0
FlatFunction = TheFlatFunction

abbrev pub FlatScopeBlock : Type 0
FlatScopeBlock = TheFlatScopeBlock

abbrev pub FlatStatement : Type 0
FlatStatement = TheFlatStatement

abbrev pub FlatSwitchCase : Type 0
FlatSwitchCase = TheFlatSwitchCase

abbrev pub FlatTerminal : Type 0
FlatTerminal = TheFlatTerminal

abbrev pub FlatTerminalStatement : Type 0
FlatTerminalStatement = TheFlatTerminalStatement

abbrev pub FlatInstruction : Type 0
FlatInstruction = TheFlatInstruction

abbrev pub FlatValue : Type 0
FlatValue = TheFlatValue

abbrev pub NestedValue : Type 0
NestedValue = TheNestedValue
