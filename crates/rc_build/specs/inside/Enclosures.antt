-- Statements with one part: labels, and the blocks of scopes, kept or pruned.
use Rattle.std.specs.Prelude.{Bool, List, Option}
use Rattle.rc_names.specs.Numbers.{BlockId, EvaluationOrder}
use Rattle.rc_names.specs.declared.span.Span.{Span}
use Rattle.rc_hir.specs.Model.{Terminal, HirFunction}
use Rattle.rc_hir.specs.declared.terminal.Terminal.TheVariants as terminals
use Rattle.rc_tree.specs.Model.{ReactiveStatement, ReactiveLabel}
use Rattle.rc_tree.specs.declared.statement.ReactiveStatement.TheVariants as reactive
use Rattle.rc_tree.specs.declared.terminal.ReactiveTerminal.TheVariants as tree
use Rattle.rc_runs.specs.declared.frames.Frame.{Frame}
use Rattle.rc_runs.specs.declared.frames.Frame.TheVariants as frame_kinds
use Rattle.rc_runs.specs.Fallthrough.{opens, opens_reachable}
use Rattle.rc_build.specs.declared.enclosures.Enclosure.{Enclosure}
use Rattle.rc_build.specs.declared.enclosures.Enclosure.TheVariants as enclosures
use Rattle.rc_build.specs.inside.Setting.{terminal_statement}

-- the terminal that asks for the statement
abbrev pub terminal_around : Enclosure → BlockId → BlockId → EvaluationOrder → Option Span → Terminal
terminal_around enclosures.Label part fallthrough id span = terminals.Label part fallthrough id span
terminal_around (enclosures.Scope scope) part fallthrough id span = terminals.Scope fallthrough part scope id span
terminal_around (enclosures.PrunedScope scope) part fallthrough id span =
    terminals.PrunedScope fallthrough part scope id span

-- the frame of the part
abbrev pub frame_of : Enclosure → BlockId → Frame
frame_of enclosures.Label fallthrough = frame_kinds.Statement fallthrough
frame_of (enclosures.Scope scope) fallthrough = frame_kinds.Scope fallthrough
frame_of (enclosures.PrunedScope scope) fallthrough = frame_kinds.Scope fallthrough

-- the fallthrough is opened
abbrev pub is_opened : Enclosure → HirFunction → List Frame → BlockId → Bool
is_opened enclosures.Label hir frames fallthrough = opens_reachable hir frames fallthrough
is_opened (enclosures.Scope scope) hir frames fallthrough = opens frames fallthrough
is_opened (enclosures.PrunedScope scope) hir frames fallthrough = opens frames fallthrough

-- the statement around these; scopes have no label
abbrev pub statement_around : Enclosure → List ReactiveStatement → EvaluationOrder → Option ReactiveLabel → ReactiveStatement
statement_around enclosures.Label part id label =
    terminal_statement (tree.Label (record { statements = part }) id) label
statement_around (enclosures.Scope scope) part id label =
    reactive.Scope (record { scope = scope; instructions = record { statements = part } })
statement_around (enclosures.PrunedScope scope) part id label =
    reactive.PrunedScope (record { scope = scope; instructions = record { statements = part } })
