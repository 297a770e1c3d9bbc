-- The read walk of a value and of a row. Operands are looked up in the table of functions, which no step changes.
use Rattle.std.specs.Prelude.{List}
use Rattle.rc_hir.specs.Operands.{operands}
use Rattle.rc_hir.specs.Model.{HirFunction, InstructionValue}
use Rattle.rc_names.specs.Numbers.{EvaluationOrder}
use Rattle.rc_tree.specs.Step.{Walk, bind, next_to, each, perhaps, around}
use Rattle.rc_tree.specs.ReadSteps.{ReadSteps, targets_of}
use Rattle.rc_tree.specs.Model.{ReactiveInstruction, ReactiveValue}
use Rattle.rc_tree.specs.declared.value.ReactiveValue.TheOpen as value
use Rattle.rc_tree.specs.declared.value.ReactiveValue.TheOpen.{ReactiveValue-F, ReactiveInstruction-F}
use Rattle.rc_tree.specs.declared.value.ReactiveValue.TheFolds.{para-ReactiveValue, para-ReactiveInstruction}

-- a walk from an id, at which places are visited
abbrev pub WalkAt : Type 0 → Type 0
WalkAt S = EvaluationOrder → Walk S

module _ {S : Type 0} (v : ReadSteps S) (functions : List HirFunction) where
  -- the walk of a value, and of a row, from the walk of its inside
  abbrev pub around_value : ReactiveValue × WalkAt S → WalkAt S
  around_value x id = around (v.enter_value id x.0) (x.1 id) (v.leave_value id x.0)

  abbrev pub around_instruction : ReactiveInstruction × Walk S → Walk S
  around_instruction x = around (v.enter_instruction x.0) x.1 (v.leave_instruction x.0)

  -- the operands of an instruction, at the given id
  abbrev pub inside_base : InstructionValue → WalkAt S
  inside_base x id s = bind (operands functions x) (λ places. each (v.visit_place id) places s)

  -- the inside of each form of value; the value of a sequence is walked at the sequence's own id
  abbrev pub value_step : ReactiveValue-F (ReactiveValue × WalkAt S) (ReactiveInstruction × Walk S) → WalkAt S
  value_step (value.Instruction x) id = inside_base x id
  value_step (value.LogicalExpression operator left right) id = next_to (around_value left id) (around_value right id)
  value_step (value.ConditionalExpression test consequent alternate) id =
      next_to (around_value test id) (next_to (around_value consequent id) (around_value alternate id))
  value_step (value.SequenceExpression rows own x) id = next_to (each around_instruction rows) (around_value x own)
  value_step (value.OptionalExpression x optional) id = around_value x id

  -- the inside of a row: its id, its target, the value's targets, its value
  abbrev pub instruction_step : ReactiveInstruction-F (ReactiveValue × WalkAt S) (ReactiveInstruction × Walk S) → Walk S
  instruction_step x =
      next_to (v.visit_id x.id) (next_to (perhaps (v.visit_lvalue x.id) x.lvalue)
      (next_to (each (v.visit_lvalue x.id) (targets_of x.value.0)) (around_value x.value x.id)))

  -- the walk of a value's inside
  unfoldable pub inside_value : ReactiveValue → WalkAt S
  inside_value = para-ReactiveValue (WalkAt S) (Walk S) value_step instruction_step

  -- the walk of a row's inside
  unfoldable pub inside_instruction : ReactiveInstruction → Walk S
  inside_instruction = para-ReactiveInstruction (WalkAt S) (Walk S) value_step instruction_step

  -- the walk of a value
  unfoldable pub read_value : ReactiveValue → WalkAt S
  read_value x id = around (v.enter_value id x) (inside_value x id) (v.leave_value id x)

  -- the walk of a row
  unfoldable pub read_instruction : ReactiveInstruction → Walk S
  read_instruction x = around (v.enter_instruction x) (inside_instruction x) (v.leave_instruction x)
