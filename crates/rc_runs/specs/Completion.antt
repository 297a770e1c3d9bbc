-- How a statement completes, and what a label and a loop make of that.
use Rattle.std.specs.Prelude.{Bool, true, false, Option, Some, if◌then◌else◌}
use Rattle.rc_names.specs.Numbers.{BlockId, same_id}
use Rattle.rc_tree.specs.Model.{ReactiveLabel}
use Rattle.rc_runs.specs.Event.{End, Open, Thrown}
use Rattle.rc_runs.specs.ValueRun.{Progress, Inside}

-- the way in which a statement completes: it goes on with the next statement, leaves the statement with a label or the
-- innermost loop or switch, begins the next turn of the loop with a label or of the innermost loop, or ends the run
pub data Completion : Type 0 where
  Normal : Completion
  BreakTo : (target : BlockId) → Completion
  BreakInnermost : Completion
  ContinueTo : (target : BlockId) → Completion
  ContinueLoop : Completion
  Ended : (end : End) → Completion

-- the completion doesn't go on with the next statement
abbrev pub leaves : Completion → Bool
leaves Normal = false
leaves _ = true

-- the completion of a statement with that label: breaks to the label go on with the next statement
abbrev pub caught : Option ReactiveLabel → Completion → Completion
caught (Some label) (BreakTo target) = if same_id label.id target then Normal else BreakTo target
caught _ outcome = outcome

-- the completion of a row, by where a run of it is
abbrev pub row_completion : Progress → Completion
row_completion Inside = Ended Open
row_completion _ = Normal

-- after this completion of its body, a loop with that label begins its next turn
abbrev pub turns_again : Option ReactiveLabel → Completion → Bool
turns_again label Normal = true
turns_again label ContinueLoop = true
turns_again (Some label) (ContinueTo target) = same_id label.id target
turns_again label _ = false

-- the completion of a loop or of a switch with that label: unlabeled breaks go on with the next statement too
abbrev pub caught_unlabeled : Option ReactiveLabel → Completion → Completion
caught_unlabeled label BreakInnermost = Normal
caught_unlabeled label outcome = caught label outcome

-- the run ends by a throw statement
abbrev pub is_thrown : Completion → Bool
is_thrown (Ended (Thrown place)) = true
is_thrown _ = false

-- from here a handler takes over: a row may throw wherever a run has come, and a throw statement throws
abbrev pub reaches_handler : Completion → Bool
reaches_handler (Ended Open) = true
reaches_handler (Ended (Thrown place)) = true
reaches_handler _ = false
