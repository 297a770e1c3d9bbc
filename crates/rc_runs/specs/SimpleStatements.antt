-- The statements that have no parts: those of the rows of a block, and those of jumps.
use Rattle.std.specs.Prelude.{List, [], ◌∷◌, Option, Some, None}
use Rattle.rc_names.specs.Numbers.{BlockId, EvaluationOrder}
use Rattle.rc_hir.specs.Model.{Instruction}
use Rattle.rc_runs.specs.declared.frames.BreakResult.{BreakResult}
use Rattle.rc_runs.specs.declared.frames.BreakResult.TheVariants.{NoFrame, LeavesScope, LeavesCase, FallsOff, Breaks}
use Rattle.rc_runs.specs.declared.frames.ContinueResult.{ContinueResult}
use Rattle.rc_runs.specs.declared.frames.ContinueResult.TheVariants.{NoLoop, Continues}
use Rattle.rc_runs.specs.PlainTree.{Base, Statements, Nil, Cons, RowStatement, TerminalStatement}
use Rattle.rc_runs.specs.PlainTree.{TreeTerminal, Break, Continue}

-- the rows of a block, each with its target, and then these statements
abbrev pub rows_before : List Instruction → Statements → Statements
rows_before [] rest = rest
rows_before (row ∷ rows) rest = Cons (RowStatement row.id (Some row.lvalue) (Base row.value) row.span)
    (rows_before rows rest)

-- a statement without a label
abbrev pub unlabeled : TreeTerminal → Statements
unlabeled terminal = Cons (TerminalStatement terminal None) Nil

-- the statements of a break; none if the break can't be written
abbrev pub break_statements : BreakResult → BlockId → EvaluationOrder → Option Statements
break_statements NoFrame target id = None
break_statements LeavesScope target id = None
break_statements LeavesCase target id = None
break_statements FallsOff target id = Some Nil
break_statements (Breaks kind) target id = Some (unlabeled (Break target kind id))

-- the statements of a continue; none if no loop takes it
abbrev pub continue_statements : ContinueResult → EvaluationOrder → Option Statements
continue_statements NoLoop id = None
continue_statements (Continues target kind) id = Some (unlabeled (Continue target kind id))
