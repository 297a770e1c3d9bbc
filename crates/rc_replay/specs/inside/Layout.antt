-- What the parts of a body add to the table of its positions.
use Rattle.std.specs.Prelude.{◌≡◌, ◌+◌, ◌++◌, ℕ, Bool, List, [], ◌∷◌, Option, Some, None, Result, IfOk, length, if◌then◌else◌}
use Rattle.rc_hir.specs.Model.{Environment, InstructionValue}
use Rattle.rc_tree.specs.Model.{ReactiveInstruction, ReactiveValue}
use Rattle.std.specs.declared.alloc.AllocError.{AllocError}
use Rattle.rc_names.specs.Numbers.{EvaluationOrder}
use Rattle.rc_tree.specs.declared.value.ReactiveValue.{ReactiveValue-F}
use Rattle.rc_tree.specs.declared.value.ReactiveValue.TheOpen as layers
use Rattle.rc_tree.specs.declared.value.ReactiveValue.TheVariants as values
use Rattle.rc_runs.specs.PlainTree.{Value, Rows}
use Rattle.rc_runs.specs.TreeOf.{value_of, instructions_of}
use Rattle.rc_replay.specs.declared.layout.After.{After}
use Rattle.rc_replay.specs.declared.layout.Layout.{Layout}
use Rattle.rc_replay.specs.declared.positions.Position.{Position as LaidPosition}
use Rattle.rc_replay.specs.declared.positions.Position.TheVariants as laid
use Rattle.rc_replay.specs.inside.LoweredValue.{LowersValue, LowersRows, LowersRow}
use Rattle.rc_replay.specs.inside.Positions.{Position, Table, position_of}

-- the table has these positions from that number on
pub data HasList (table : Table) : ℕ → List LaidPosition → Type 0 where
  none_has : {start : _} → HasList table start []
  one_has : {start position rest : _} → table start ≡ Some (position_of position) → HasList table (start + 1) rest →
      HasList table start (position ∷ rest)

-- More positions were added, and those that were there stayed, with the labels. What is laid out holds of each table
-- that has the new positions.
pub record Lays (old new : Layout) (fact : Table → Type 0) : Type 0 where
  pub added : List LaidPosition
  pub labels : new.labels ≡ old.labels
  pub grown : new.positions ≡ old.positions ++ added
  pub laid : (table : Table) → HasList table (length old.positions) added → fact table

-- one position was added, which is filled in later
pub record Reserves (old new : Layout) (number : ℕ) : Type 0 where
  pub at : number ≡ length old.positions
  pub grown : new.positions ≡ old.positions ++ laid.Stops ∷ []
  pub labels : new.labels ≡ old.labels

-- the number has that position
abbrev pub Has : ℕ → Position → Table → Type 0
Has number position table = table number ≡ Some position

-- after a value whose ends lead to one position
abbrev pub both : ℕ → After
both next = record { done = next; short = next }

-- a value is laid out
pub record LaysValue (env : Environment) (is_test : Bool) (value : ReactiveValue) (after : After) (old new : Layout)
    (start : ℕ) : Type 0 where
  pub plain : Value
  pub same : value_of plain ≡ value
  pub lays : Lays old new (λ table. LowersValue table env is_test plain after.done after.short start)

-- so are the rows of a sequence, and then its value
pub record LaysRows (env : Environment) (is_test : Bool) (rows : List ReactiveInstruction) (value : ReactiveValue)
    (after : After) (old new : Layout) (start : ℕ) : Type 0 where
  pub rows_plain : Rows
  pub plain : Value
  pub same_rows : instructions_of rows_plain ≡ rows
  pub same : value_of plain ≡ value
  pub lays : Lays old new (λ table. LowersRows table env is_test rows_plain plain after.done after.short start)

-- after a row with another one, or the value, after it
abbrev pub after_row : After → ℕ → Bool → After
after_row after next of_test = record { done = next; short = if of_test then after.short else next }

-- rows are laid out before their value, wherever that was laid out
abbrev pub LaysRowsBefore : Environment → Bool → List ReactiveInstruction → ReactiveValue → After → ℕ → Layout → Layout
    → Result ℕ AllocError → Type 0
LaysRowsBefore env is_test rows value after next old new result =
    (first : Layout) → LaysValue env is_test value after first old next
    → IfOk result (LaysRows env is_test rows value after first new)

-- so is a row
pub record LaysRow (env : Environment) (is_test : Bool) (row : ReactiveInstruction) (after : After) (old new : Layout)
    (start : ℕ) : Type 0 where
  pub plain : Value
  pub same : value_of plain ≡ row.value
  pub lays : Lays old new (λ table. LowersRow table env is_test row.id plain after.done after.short start)

-- so is a value of one instruction, and an optional with this value
abbrev pub LaysInstruction : Environment → Bool → InstructionValue → After → Layout → Layout → ℕ → Type 0
LaysInstruction env is_test value = LaysValue env is_test (values.Instruction value)

abbrev pub LaysOptional : Environment → Bool → ReactiveValue → After → Layout → Layout → ℕ → Type 0
LaysOptional env is_test value after old new start =
    (optional : Bool) → LaysValue env is_test (values.OptionalExpression value optional) after old new start

-- the one row of a sequence, the sequence's id, and its value
abbrev pub chain_of : ReactiveValue-F ReactiveValue ReactiveInstruction
    → Option (ReactiveInstruction × EvaluationOrder × ReactiveValue)
chain_of (layers.SequenceExpression (row ∷ []) id rest) = Some (row, id, rest)
chain_of value = None
