-- Loops by their kinds: the loop that a terminal is, and its blocks.
use Rattle.std.specs.Prelude.{Bool, true, false, List, ◌∷◌, Option, Some, None}
use Rattle.std.specs.Option.{option_to_list}
use Rattle.rc_names.specs.Numbers.{BlockId, EvaluationOrder}
use Rattle.rc_names.specs.declared.span.Span.{Span}
use Rattle.rc_hir.specs.Model.{Terminal}
use Rattle.rc_hir.specs.declared.terminal.Terminal.TheVariants as terminals
use Rattle.rc_runs.specs.LoopParts.{LoopBlocks}
use Rattle.rc_build.specs.declared.loops.LoopTerminal.{LoopTerminal}
use Rattle.rc_build.specs.declared.loops.LoopKind.{LoopKind}
use Rattle.rc_build.specs.declared.loops.LoopKind.TheVariants as kinds

-- the block of the value that runs once, before all turns
abbrev pub init_of : LoopKind → Option BlockId
init_of (kinds.For init update) = Some init
init_of _ = None

-- the block of the value with which each turn begins, before its test
abbrev pub before_of : LoopKind → Option BlockId
before_of (kinds.For init update) = update
before_of (kinds.ForOf init) = Some init
before_of _ = None

-- the values of the turns are flattened
abbrev pub is_flat : LoopKind → Bool
is_flat (kinds.ForOf init) = true
is_flat kinds.ForIn = true
is_flat _ = false

abbrev pub is_while_kind : LoopKind → Bool
is_while_kind kinds.While = true
is_while_kind _ = false

-- the loop of that kind with these parts
abbrev pub loop_with : LoopKind → BlockId → BlockId → BlockId → EvaluationOrder → Option Span → LoopTerminal
loop_with kind test body fallthrough id span =
    record { kind = kind; test = test; body = body; fallthrough = fallthrough; id = id; span = span }

-- the loop of a terminal that has an init
abbrev pub for_of : Terminal → Option LoopTerminal
for_of (terminals.For init test update loop_block fallthrough id span) =
    Some (loop_with (kinds.For init update) test loop_block fallthrough id span)
for_of (terminals.ForOf init test loop_block fallthrough id span) =
    Some (loop_with (kinds.ForOf init) test loop_block fallthrough id span)
for_of (terminals.ForIn init loop_block fallthrough id span) =
    Some (loop_with kinds.ForIn init loop_block fallthrough id span)
for_of _ = None

-- the loop of a terminal
abbrev pub loop_of : Terminal → Option LoopTerminal
loop_of (terminals.While test loop_block fallthrough id span) =
    Some (loop_with kinds.While test loop_block fallthrough id span)
loop_of (terminals.DoWhile loop_block test fallthrough id span) =
    Some (loop_with kinds.DoWhile test loop_block fallthrough id span)
loop_of terminal = for_of terminal

-- the terminal of a loop, by its kind
abbrev pub terminal_with : LoopKind → LoopTerminal → Terminal
terminal_with kinds.While t = terminals.While t.test t.body t.fallthrough t.id t.span
terminal_with kinds.DoWhile t = terminals.DoWhile t.body t.test t.fallthrough t.id t.span
terminal_with (kinds.For init update) t = terminals.For init t.test update t.body t.fallthrough t.id t.span
terminal_with (kinds.ForOf init) t = terminals.ForOf init t.test t.body t.fallthrough t.id t.span
terminal_with kinds.ForIn t = terminals.ForIn t.test t.body t.fallthrough t.id t.span

abbrev pub terminal_of : LoopTerminal → Terminal
terminal_of t = terminal_with t.kind t

-- the blocks of a loop's turns, with values that are flattened or not
abbrev pub blocks_with : LoopKind → Bool → LoopTerminal → LoopBlocks
blocks_with kind flat t = record {
  before = before_of kind;
  test = t.test;
  body = t.body;
  fallthrough = t.fallthrough;
  flat = flat;
  span = t.span;
}

abbrev pub shown_blocks : Bool → LoopTerminal → LoopBlocks
shown_blocks flat t = blocks_with t.kind flat t

abbrev pub blocks_of : LoopTerminal → LoopBlocks
blocks_of t = shown_blocks (is_flat t.kind) t

-- the blocks of the values of a turn
abbrev pub value_blocks : LoopTerminal → List BlockId
value_blocks t = t.test ∷ option_to_list (before_of t.kind)
