-- The rows of a value's last block: the last one is the value, and the earlier ones are in a sequence before it.
use Rattle.std.specs.Prelude.{Bool, true, false, List, [], ◌∷◌, Some, if◌then◌else◌}
use Rattle.rc_names.specs.Numbers.{EvaluationOrder}
use Rattle.rc_hir.specs.Model.{Place, InstructionValue, Instruction, Environment, Terminal}
use Rattle.rc_hir.specs.declared.instruction.InstructionValue.TheVariants as kinds
use Rattle.rc_hir.specs.declared.terminal.Terminal.TheVariants as terminals
use Rattle.rc_runs.specs.Silent.{is_unnamed}
use Rattle.rc_runs.specs.PlainTree.{Value, Base, Sequence, Rows, NoRows, Row}

-- the terminal ends a value whose last block has rows
abbrev pub ends_value : Terminal → Bool
ends_value (terminals.Branch test consequent alternate id span) = true
ends_value (terminals.Goto block variant id span) = true
ends_value _ = false

-- the value of the last row: a store into an identifier without a name is a load of what it stores
abbrev pub last_value : Environment → InstructionValue → InstructionValue
last_value env (kinds.StoreLocal lvalue value span) =
    if is_unnamed env lvalue.place then kinds.LoadLocal value value.span else kinds.StoreLocal lvalue value span
last_value env value = value

-- the place with which the last row answers: its target, or what such a store writes
abbrev pub last_answer : Environment → Place → InstructionValue → Place
last_answer env target (kinds.StoreLocal lvalue value span) =
    if is_unnamed env lvalue.place then lvalue.place else target
last_answer env target value = target

-- the rows of a block as rows of a sequence, and then more of its rows
abbrev pub rows_then : List Instruction → Rows → Rows
rows_then [] more = more
rows_then (row ∷ rows) more = Row row.id (Some row.lvalue) (Base row.value) row.span (rows_then rows more)

-- a value with rows of a block before it: a sequence, if there are any
abbrev pub after_rows : List Instruction → EvaluationOrder → Value → Value
after_rows [] id value = value
after_rows (row ∷ rows) id value = Sequence (rows_then (row ∷ rows) NoRows) id value
