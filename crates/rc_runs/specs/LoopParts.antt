-- What each turn of a loop runs, in the graph and in the tree: the same for all five kinds of loops.
use Rattle.std.specs.Prelude.{Bool, Option, Some, None}
use Rattle.rc_names.specs.Numbers.{BlockId}
use Rattle.rc_names.specs.declared.span.Span.{Span}
use Rattle.rc_runs.specs.declared.frames.Frame.{Frame}
use Rattle.rc_runs.specs.declared.frames.Frame.TheVariants as frame_kinds
use Rattle.rc_runs.specs.PlainTree.{Value, Statements}

-- the blocks of a loop: what each turn begins with before its test (an update, or the init of a `for..of`), the test,
-- the body, and the fallthrough; whether its values are flattened; its span
pub record LoopBlocks : Type 0 where
  pub before : Option BlockId
  pub test : BlockId
  pub body : BlockId
  pub fallthrough : BlockId
  pub flat : Bool
  pub span : Option Span

-- the first of two blocks, if it is there, else the second
abbrev pub first_of : Option BlockId → BlockId → BlockId
first_of None second = second
first_of (Some first) second = first

-- the block with which each turn begins, to which a continue goes
abbrev pub turn_start : LoopBlocks → BlockId
turn_start blocks = first_of blocks.before blocks.test

-- the frame of a loop
abbrev pub loop_frame : LoopBlocks → Frame
loop_frame blocks = frame_kinds.Loop blocks.fallthrough (turn_start blocks)

-- what a loop runs in each turn: a value before the test, if there is one, the test, and the body
pub record LoopParts : Type 0 where
  pub before : Option Value
  pub test : Value
  pub body : Statements
