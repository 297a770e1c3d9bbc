-- The context of a list of statements, that of the parts of a statement, and that of a value.
use Rattle.std.specs.Prelude.{Bool, true, false, List, [], ◌∷◌, Option, Some, None, if◌then◌else◌}
use Rattle.rc_names.specs.Numbers.{BlockId, same_id}
use Rattle.rc_names.specs.declared.span.Span.{Span}
use Rattle.rc_runs.specs.declared.frames.Frame.{Frame}
use Rattle.rc_runs.specs.declared.frames.Frame.TheVariants as frame_kinds
use Rattle.rc_runs.specs.Frames.{fall_block}

-- the context of a list: the block that falling off it reaches, the frames, and the current handler
pub record ListContext : Type 0 where
  pub next : Option BlockId
  pub frames : List Frame
  pub handler : Option BlockId

-- the context of a body is empty
abbrev pub outermost : ListContext
outermost = record { next = None; frames = []; handler = None }

-- the context of a part of a statement: it has one more frame if the statement's fallthrough is opened
abbrev pub inside : Bool → Frame → ListContext → ListContext
inside opened frame context =
    if opened then record context { next = fall_block frame; frames = frame ∷ context.frames } else context

-- the context of the cases of a switch, inside its mark
abbrev pub marked : ListContext → ListContext
marked context = record context { frames = frame_kinds.Mark ∷ context.frames }

-- the context of a part that a handler protects
abbrev pub protected_by : BlockId → ListContext → ListContext
protected_by handler context = record context { handler = Some handler }

-- the handler that a terminal names, if it names one, is the current one
abbrev pub is_current : Option BlockId → Option BlockId → Bool
is_current None current = true
is_current (Some named) None = false
is_current (Some named) (Some current) = same_id named current

-- the context of a value: the span of the terminal in whose value it is, the current handler, and whether it is the
-- test of an optional
pub record ValueContext : Type 0 where
  pub around : Option Span
  pub handler : Option BlockId
  pub is_test : Bool

-- the context of a value that a statement of the list holds itself
abbrev pub value_context : Option Span → ListContext → ValueContext
value_context span context = record { around = span; handler = context.handler; is_test = false }

-- the context of a value that is a part of a value terminal with that span
abbrev pub part_context : Option Span → Option BlockId → ValueContext
part_context span handler = record { around = span; handler = handler; is_test = false }
