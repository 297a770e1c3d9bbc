-- The read walk of a graph's function: its parameters, then its blocks in graph order.
--
-- Each row is walked as a row of the tree, and then the function that is its value. A block ends with the operands of
-- its terminal. `entered` says of each function of the table whether the walk is inside it. To enter such a function
-- again is a cycle, and a function outside the table is a bad name.
use Rattle.std.specs.Prelude.{ℕ, zero, suc, Bool, true, false, List, [], ◌∷◌, Option, None, Some, Err, map}
use Rattle.std.specs.Prelude.{slice_get, slice_set}
use Rattle.rc_names.specs.Numbers.{BlockId, FunctionId, InstructionId}
use Rattle.rc_hir.specs.Terminal.{evaluation_order}
use Rattle.rc_hir.specs.TerminalOperands.{terminal_operands}
use Rattle.rc_hir.specs.declared.fault.Fault.TheVariants.{BadName, FunctionCycle}
use Rattle.rc_hir.specs.declared.fault.TableName.TheVariants.{Functions, Instructions}
use Rattle.rc_hir.specs.Model.{BasicBlock, HirFunction, Instruction, InstructionValue, ParamPattern, Place}
use Rattle.rc_hir.specs.declared.instruction.InstructionValue.TheVariants.{ObjectMethod, FunctionExpression}
use Rattle.rc_hir.specs.declared.place.ParamPattern.TheVariants as param
use Rattle.rc_tree.specs.Step.{Walk, next_to, each, perhaps}
use Rattle.rc_tree.specs.ReadSteps.{ReadSteps}
use Rattle.rc_tree.specs.Read.Values.{read_instruction}
use Rattle.rc_tree.specs.Model.{ReactiveInstruction}
use Rattle.rc_tree.specs.declared.value.ReactiveValue.TheVariants as reactive_values

-- a row of a graph as a row of the tree
abbrev pub as_row : Instruction → ReactiveInstruction
as_row x = record { id = x.id; lvalue = Some x.lvalue; value = reactive_values.Instruction x.value; span = x.span }

-- the nested function that a value is, if it is one
abbrev pub held_function : InstructionValue → Option FunctionId
held_function (ObjectMethod lowered span) = Some lowered.func
held_function (FunctionExpression name lowered span) = Some lowered.func
held_function _ = None

-- the place of a parameter
abbrev pub param_place : ParamPattern → Place
param_place (param.Place place) = place
param_place (param.Spread spread) = spread.place

-- the number of functions that aren't entered
abbrev pub not_entered : List Bool → ℕ
not_entered [] = 0
not_entered (true ∷ marks) = not_entered marks
not_entered (false ∷ marks) = suc (not_entered marks)

module _ {S : Type 0} (v : ReadSteps S) (functions : List HirFunction) where
  module _ (inner : FunctionId → Walk S) where
    -- a row, and then the function that is its value
    abbrev pub row_and_function : Instruction → Walk S
    row_and_function x = next_to (read_instruction v functions (as_row x)) (perhaps inner (held_function x.value))

    -- the row with a number; a number outside the function's rows is a bad name
    abbrev pub numbered_row : InstructionId → Option Instruction → Walk S
    numbered_row id None s = Err (BadName Instructions id.0)
    numbered_row id (Some x) s = row_and_function x s

    -- a row of a block, looked up among the function's rows
    abbrev pub block_row : List Instruction → InstructionId → Walk S
    block_row rows id = numbered_row id (slice_get rows id.0)

    -- the rows of a block, and then its terminal's operands, at the terminal's id
    abbrev pub basic_block : List Instruction → BlockId × BasicBlock → Walk S
    basic_block rows entry =
        next_to (each (block_row rows) entry.1.instructions)
        (each (v.visit_place (evaluation_order entry.1.terminal)) (terminal_operands entry.1.terminal))

    -- the parameters of a function, then its blocks
    abbrev pub inside_function : HirFunction → Walk S
    inside_function x = next_to (each (λ p. v.visit_param (param_place p)) x.params)
        (each (basic_block x.instructions) x.body.blocks)

    -- the function with a number; a number outside the table is a bad name
    abbrev pub numbered_function : FunctionId → Option HirFunction → Walk S
    numbered_function func None s = Err (BadName Functions func.0)
    numbered_function func (Some x) s = inside_function x s

  -- a function, depending on whether the walk is inside it
  abbrev pub by_mark : (List Bool → FunctionId → Walk S) → List Bool → FunctionId → Option Bool → Walk S
  by_mark inner entered func None s = Err (BadName Functions func.0)
  by_mark inner entered func (Some true) s = Err (FunctionCycle func)
  by_mark inner entered func (Some false) s =
      numbered_function (inner (slice_set entered func.0 true)) func (slice_get functions func.0) s

  -- the walk of a function; no more functions than those that aren't entered can be nested in it
  unfoldable pub function_to : ℕ → List Bool → FunctionId → Walk S
  function_to zero entered func s = Err (FunctionCycle func)
  function_to (suc n) entered func s = by_mark (function_to n) entered func (slice_get entered func.0) s

  -- the walk of a function, given which functions are entered
  unfoldable pub function_at : List Bool → FunctionId → Walk S
  function_at entered = function_to (suc (not_entered entered)) entered

  -- the walk of a function of the table, with no function entered
  abbrev pub read_function : FunctionId → Walk S
  read_function = function_at (map (λ x. false) functions)

  -- the walk of a function's inside, of one of its blocks and of one of its rows, given which functions are entered
  abbrev pub numbered_at : List Bool → FunctionId → Walk S
  numbered_at entered func = numbered_function (function_at entered) func (slice_get functions func.0)

  abbrev pub basic_block_at : List Bool → List Instruction → BlockId × BasicBlock → Walk S
  basic_block_at entered = basic_block (function_at entered)

  abbrev pub row_at : List Bool → List Instruction → InstructionId → Walk S
  row_at entered = block_row (function_at entered)
