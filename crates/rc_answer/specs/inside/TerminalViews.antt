-- What views of terminals are seen as.
use Rattle.std.specs.Prelude.{Option}
use Rattle.rc_tree.specs.Model.{ReactiveLabel}
use Rattle.rc_flat.specs.Model.{FlatTerminal, FlatTerminalStatement}
use Rattle.rc_flat.specs.declared.terminal.FlatTerminal.TheVariants as terminals
use Rattle.rc_answer.specs.declared.view.terminal.TerminalForm.{TerminalForm}
use Rattle.rc_answer.specs.declared.view.terminal.TerminalForm.TheVariants as terminal_form

-- the terminal of a form
abbrev pub terminal_seen : TerminalForm → FlatTerminal
terminal_seen (terminal_form.Break target kind id) = terminals.Break target kind id
terminal_seen (terminal_form.Continue target kind id) = terminals.Continue target kind id
terminal_seen (terminal_form.Return place id) = terminals.Return place.now id
terminal_seen (terminal_form.Throw place id) = terminals.Throw place.now id
terminal_seen (terminal_form.Switch test cases id) = terminals.Switch test.now cases id
terminal_seen (terminal_form.DoWhile body test id) = terminals.DoWhile body test id
terminal_seen (terminal_form.While test body id) = terminals.While test body id
terminal_seen (terminal_form.For init test update body id) = terminals.For init test update body id
terminal_seen (terminal_form.ForOf init test body span id) = terminals.ForOf init test body span id
terminal_seen (terminal_form.ForIn init body span id) = terminals.ForIn init body span id
terminal_seen (terminal_form.If test consequent alternate id) = terminals.If test.now consequent alternate id
terminal_seen (terminal_form.Label body id) = terminals.Label body id
terminal_seen (terminal_form.Try block binding handler id) = terminals.Try block binding.now handler id

-- a terminal with its label
abbrev pub terminal_statement_seen : FlatTerminal → Option ReactiveLabel → FlatTerminalStatement
terminal_statement_seen terminal label = record { terminal = terminal; label = label }
