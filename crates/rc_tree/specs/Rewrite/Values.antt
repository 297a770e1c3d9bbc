-- The rewriting walk of a value and of a row.
use Rattle.std.specs.Prelude.{ℕ, zero, suc, List}
use Rattle.rc_hir.specs.Operands.{operands}
use Rattle.rc_hir.specs.Model.{HirFunction, InstructionValue}
use Rattle.rc_names.specs.Numbers.{EvaluationOrder}
use Rattle.rc_tree.specs.Step.{Walk, each, perhaps}
use Rattle.rc_tree.specs.Step as outcome
use Rattle.rc_tree.specs.Fuel.{Fueled, OutOfFuel, Done, bind, after, as_step, Hook, FueledWalk, each_part, around}
use Rattle.rc_tree.specs.ReadSteps.{targets_of}
use Rattle.rc_tree.specs.RewriteSteps.{RewriteSteps}
use Rattle.rc_tree.specs.declared.value.ReactiveInstruction.{ReactiveInstruction, size-ReactiveInstruction}
use Rattle.rc_tree.specs.declared.value.ReactiveValue.{ReactiveValue, out-ReactiveValue, size-ReactiveValue}
use Rattle.rc_tree.specs.declared.value.ReactiveValue.TheOpen as value
use Rattle.rc_tree.specs.declared.value.ReactiveValue.TheOpen.{ReactiveValue-F}
use Rattle.rc_tree.specs.declared.value.ReactiveValue.TheVariants as reactive_values

-- the world is the transform with the state
module _ {T S : Type 0} (v : RewriteSteps (T × S)) (functions : T → List HirFunction) where
  -- the operands of an instruction, at the given id
  abbrev pub inside_base : EvaluationOrder → InstructionValue → Walk (T × S)
  inside_base id x w = outcome.bind (operands (functions w.0) x) (λ places. each (v.visit_place id) places w)

  module _ (inner : EvaluationOrder → FueledWalk (T × S) ReactiveValue) where
    -- the inside of a row: its id, its target, the value's targets, its value
    abbrev pub instruction_inside : FueledWalk (T × S) ReactiveInstruction
    instruction_inside w x =
        after (v.visit_id x.id w) (λ a. after (perhaps (v.visit_lvalue x.id) x.lvalue a.1)
        (λ b. after (each (v.visit_lvalue x.id) (targets_of x.value) b.1) (λ c.
        bind (inner x.id c.1 x.value)
        (λ d. Done (tt, (d.1.0, record { id = x.id; lvalue = x.lvalue; value = d.1.1; span = x.span }))))))

    -- the walk of a row
    unfoldable pub instruction_at : FueledWalk (T × S) ReactiveInstruction
    instruction_at w x = around v.enter_instruction instruction_inside v.leave_instruction w x

    -- the rows of a sequence, each in its place
    unfoldable pub rows_at : FueledWalk (T × S) (List ReactiveInstruction)
    rows_at w rows = each_part instruction_at w rows

    -- the inside of each form of value; the value of a sequence is walked at the sequence's own id
    abbrev pub value_layer : (T × S) → EvaluationOrder → ReactiveValue-F ReactiveValue ReactiveInstruction
        → Fueled (Unit {0} × ((T × S) × ReactiveValue))
    value_layer w id (value.Instruction x) =
        after (inside_base id x w) (λ a. Done (tt, (a.1, reactive_values.Instruction x)))
    value_layer w id (value.LogicalExpression operator x y) =
        bind (inner id w x) (λ a. bind (inner id a.1.0 y) (λ b. Done
        (tt, (b.1.0, reactive_values.LogicalExpression operator a.1.1 b.1.1))))
    value_layer w id (value.ConditionalExpression x y z) =
        bind (inner id w x) (λ a. bind (inner id a.1.0 y) (λ b. bind (inner id b.1.0 z)
        (λ c. Done (tt, (c.1.0, reactive_values.ConditionalExpression a.1.1 b.1.1 c.1.1)))))
    value_layer w id (value.SequenceExpression rows own x) =
        bind (rows_at w rows) (λ a. bind (inner own a.1.0 x)
        (λ b. Done (tt, (b.1.0, reactive_values.SequenceExpression a.1.1 own b.1.1))))
    value_layer w id (value.OptionalExpression x optional) =
        bind (inner id w x) (λ a. Done (tt, (a.1.0, reactive_values.OptionalExpression a.1.1 optional)))

    -- the inside of a value, by its form
    abbrev pub value_inside : EvaluationOrder → FueledWalk (T × S) ReactiveValue
    value_inside id w x = value_layer w id (out-ReactiveValue x)

  -- the walk of a value, with fuel
  unfoldable pub value_to : ℕ → EvaluationOrder → FueledWalk (T × S) ReactiveValue
  value_to zero id w x = OutOfFuel
  value_to (suc n) id w x = around (v.enter_value id) (value_inside (value_to n) id) (v.leave_value id) w x

  -- the walk of a value, and of its inside
  unfoldable pub rewrite_value : EvaluationOrder → Hook (T × S) ReactiveValue (Unit {0})
  rewrite_value id w x = as_step (value_to (suc (size-ReactiveValue x)) id w x)

  unfoldable pub inside_value : EvaluationOrder → Hook (T × S) ReactiveValue (Unit {0})
  inside_value id w x = as_step (value_inside (value_to (size-ReactiveValue x)) id w x)

  -- the walk of a row, and of its inside
  unfoldable pub rewrite_instruction : Hook (T × S) ReactiveInstruction (Unit {0})
  rewrite_instruction w x = as_step (instruction_at (value_to (size-ReactiveInstruction x)) w x)

  unfoldable pub inside_instruction : Hook (T × S) ReactiveInstruction (Unit {0})
  inside_instruction w x = as_step (instruction_inside (value_to (size-ReactiveInstruction x)) w x)
