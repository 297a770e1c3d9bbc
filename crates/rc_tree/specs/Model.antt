-- The types of the tree and of the answers of its walks, by one import.
use Rattle.rc_tree.specs.declared.function.ReactiveFunction.{ReactiveFunction as TheReactiveFunction}
use Rattle.rc_tree.specs.declared.kind.ReactiveTerminalTargetKind.{ReactiveTerminalTargetKind as TheReactiveTerminalTargetKind}
use Rattle.rc_tree.specs.declared.scope.PrunedReactiveScopeBlock.{PrunedReactiveScopeBlock as ThePrunedReactiveScopeBlock}
use Rattle.rc_tree.specs.declared.scope.ReactiveScopeBlock.{ReactiveScopeBlock as TheReactiveScopeBlock}
use Rattle.rc_tree.specs.declared.statement.ReactiveBlock.{ReactiveBlock as TheReactiveBlock}
use Rattle.rc_tree.specs.declared.statement.ReactiveStatement.{ReactiveStatement as TheReactiveStatement}
use Rattle.rc_tree.specs.declared.terminal.ReactiveLabel.{ReactiveLabel as TheReactiveLabel}
use Rattle.rc_tree.specs.declared.terminal.ReactiveSwitchCase.{ReactiveSwitchCase as TheReactiveSwitchCase}
use Rattle.rc_tree.specs.declared.terminal.ReactiveTerminal.{ReactiveTerminal as TheReactiveTerminal}
use Rattle.rc_tree.specs.declared.terminal.ReactiveTerminalStatement.{ReactiveTerminalStatement as TheReactiveTerminalStatement}
use Rattle.rc_tree.specs.declared.hooks.Transformed.{Transformed as TheTransformed}
use Rattle.rc_tree.specs.declared.value.ReactiveInstruction.{ReactiveInstruction as TheReactiveInstruction}
use Rattle.rc_tree.specs.declared.value.ReactiveValue.{ReactiveValue as TheReactiveValue}
use Rattle.rc_tree.specs.declared.hooks.Enter.{Enter as TheEnter}

abbrev pub ReactiveFunction : Type 0
ReactiveFunction = TheReactiveFunction

abbrev pub ReactiveTerminalTargetKind : Type 0
ReactiveTerminalTargetKind = TheReactiveTerminalTargetKind

abbrev pub PrunedReactiveScopeBlock : Type 0
PrunedReactiveScopeBlock = ThePrunedReactiveScopeBlock

abbrev pub ReactiveScopeBlock : Type 0
ReactiveScopeBlock = TheReactiveScopeBlock

abbrev pub ReactiveBlock : Type 0
ReactiveBlock = TheReactiveBlock

abbrev pub ReactiveStatement : Type 0
ReactiveStatement = TheReactiveStatement

abbrev pub ReactiveLabel : Type 0
ReactiveLabel = TheReactiveLabel

abbrev pub ReactiveSwitchCase : Type 0
ReactiveSwitchCase = TheReactiveSwitchCase

abbrev pub ReactiveTerminal : Type 0
ReactiveTerminal = TheReactiveTerminal

abbrev pub ReactiveTerminalStatement : Type 0
ReactiveTerminalStatement = TheReactiveTerminalStatement

abbrev pub Transformed : Type 0 → Type 0
Transformed = TheTransformed

abbrev pub ReactiveInstruction : Type 0
ReactiveInstruction = TheReactiveInstruction

abbrev pub ReactiveValue : Type 0
ReactiveValue = TheReactiveValue

abbrev pub Enter : Type 0
Enter = TheEnter
