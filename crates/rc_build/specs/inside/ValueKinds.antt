-- Value terminals by their kinds, and the value terminal of a block.
use Rattle.std.specs.Prelude.{Option, Some, None, option_and_then}
use Rattle.rc_names.specs.Numbers.{BlockId, EvaluationOrder}
use Rattle.rc_names.specs.declared.span.Span.{Span}
use Rattle.rc_hir.specs.Model.{Terminal, HirFunction}
use Rattle.rc_hir.specs.declared.terminal.Terminal.TheVariants as terminals
use Rattle.rc_runs.specs.Graph.{basic_block}
use Rattle.rc_build.specs.declared.value_terminals.ValueKind.{ValueKind}
use Rattle.rc_build.specs.declared.value_terminals.ValueKind.TheVariants as kinds
use Rattle.rc_build.specs.declared.value_terminals.ValueTerminal.{ValueTerminal}

-- the value terminal of that kind with these parts
abbrev pub with_kind : ValueKind → BlockId → EvaluationOrder → Option Span → ValueTerminal
with_kind kind fallthrough id span = record { kind = kind; fallthrough = fallthrough; id = id; span = span }

-- the value terminal that a terminal is
abbrev pub value_terminal : Terminal → Option ValueTerminal
value_terminal (terminals.Sequence block fallthrough id span) = Some (with_kind (kinds.Sequence block) fallthrough id span)
value_terminal (terminals.Ternary test fallthrough id span) = Some (with_kind (kinds.Ternary test) fallthrough id span)
value_terminal (terminals.Logical operator test fallthrough id span) =
    Some (with_kind (kinds.Logical operator test) fallthrough id span)
value_terminal (terminals.Optional optional test fallthrough id span) =
    Some (with_kind (kinds.Optional optional test) fallthrough id span)
value_terminal _ = None

-- the terminal of that kind
abbrev pub terminal_with : ValueKind → BlockId → EvaluationOrder → Option Span → Terminal
terminal_with (kinds.Sequence block) fallthrough id span = terminals.Sequence block fallthrough id span
terminal_with (kinds.Ternary test) fallthrough id span = terminals.Ternary test fallthrough id span
terminal_with (kinds.Logical operator test) fallthrough id span = terminals.Logical operator test fallthrough id span
terminal_with (kinds.Optional optional test) fallthrough id span = terminals.Optional optional test fallthrough id span

abbrev pub terminal_of : ValueTerminal → Terminal
terminal_of t = terminal_with t.kind t.fallthrough t.id t.span

-- the value terminal of the block under a key
abbrev pub terminal_at : HirFunction → BlockId → Option ValueTerminal
terminal_at hir key = option_and_then (λ block. value_terminal block.terminal) (basic_block hir key)
