-- The equations of the read walk of rows and values: one for each form.
use Rattle.std.proofs.Common.{◌≡◌, Bool, List, refl, sym, ap, ◌∙◌}
use Rattle.rc_hir.specs.Model.{HirFunction, InstructionValue, LogicalOperator}
use Rattle.rc_names.specs.Numbers.{EvaluationOrder}
use Rattle.rc_tree.proofs.StepLemmas.{gives_next, gives_fault, each-map}
use Rattle.rc_tree.specs.Step.{Walk, bind, next_to, each, perhaps, around}
use Rattle.rc_tree.specs.ReadSteps.{ReadSteps, targets_of}
use Rattle.rc_tree.specs.Read.Values.{WalkAt, around_instruction, inside_base, value_step, instruction_step}
use Rattle.rc_tree.specs.Read.Values.{inside_value, inside_instruction, read_value, read_instruction}
use Rattle.rc_tree.specs.Model.{ReactiveInstruction}
use Rattle.rc_tree.specs.declared.value.ReactiveValue.{ReactiveValue, roll-ReactiveValue, map-ReactiveValue}
use Rattle.rc_tree.specs.declared.value.ReactiveValue.TheOpen as value
use Rattle.rc_tree.specs.declared.value.ReactiveValue.TheVariants as reactive_values
use Rattle.rc_tree.specs.declared.value.ReactiveValue.TheFolds.{para-roll-ReactiveValue, para-roll-ReactiveInstruction}

module _ {S : Type 0} (v : ReadSteps S) (functions : List HirFunction) where
  pub read_value-around : (x : ReactiveValue) (id : EvaluationOrder) (s : S)
      → read_value v functions x id s ≡ around (v.enter_value id x) (inside_value v functions x id) (v.leave_value id x)
      s
  unfolding read_value
  read_value-around x id s = refl

  pub read_instruction-around : (x : ReactiveInstruction) (s : S)
      → read_instruction v functions x s ≡ around (v.enter_instruction x) (inside_instruction v functions x)
      (v.leave_instruction x) s
  unfolding read_instruction
  read_instruction-around x s = refl

  -- the inside of a value is the step of its form, where each part has the walk of its own inside
  pub opened : (x : value.ReactiveValue-F ReactiveValue ReactiveInstruction) (id : EvaluationOrder) (s : S)
      → inside_value v functions (roll-ReactiveValue x) id s
      ≡ value_step v functions (map-ReactiveValue ReactiveValue ReactiveInstruction (ReactiveValue × WalkAt S)
      (ReactiveInstruction × Walk S) (λ y. (y, inside_value v functions y))
      (λ y. (y, inside_instruction v functions y)) x) id s
  unfolding inside_value inside_instruction
  opened x id s = ap (λ f. f id s) (para-roll-ReactiveValue (WalkAt S) (Walk S) (value_step v functions)
      (instruction_step v functions) x)

  pub inside-Instruction : (x : InstructionValue) (id : EvaluationOrder) (s : S)
      → inside_value v functions (reactive_values.Instruction x) id s ≡ inside_base v functions x id s
  inside-Instruction x id s =
      ap (λ y. inside_value v functions y id s) (sym (reactive_values.rolls-Instruction x))
      ∙ opened (value.Instruction x) id s

  pub inside-LogicalExpression : (operator : LogicalOperator) (left right : ReactiveValue) (id : EvaluationOrder)
      (s : S)
      → inside_value v functions (reactive_values.LogicalExpression operator left right) id s
      ≡ next_to (read_value v functions left id) (read_value v functions right id) s
  unfolding read_value
  inside-LogicalExpression operator left right id s =
      ap (λ y. inside_value v functions y id s) (sym (reactive_values.rolls-LogicalExpression operator left right))
      ∙ opened (value.LogicalExpression operator left right) id s

  pub inside-ConditionalExpression : (test consequent alternate : ReactiveValue) (id : EvaluationOrder) (s : S)
      → inside_value v functions (reactive_values.ConditionalExpression test consequent alternate) id s
      ≡ next_to (read_value v functions test id) (next_to (read_value v functions consequent id)
      (read_value v functions alternate id)) s
  unfolding read_value
  inside-ConditionalExpression test consequent alternate id s =
      ap (λ y. inside_value v functions y id s)
      (sym (reactive_values.rolls-ConditionalExpression test consequent alternate))
      ∙ opened (value.ConditionalExpression test consequent alternate) id s

  pub inside-SequenceExpression : (rows : List ReactiveInstruction) (own : EvaluationOrder) (last : ReactiveValue)
      (id : EvaluationOrder) (s : S)
      → inside_value v functions (reactive_values.SequenceExpression rows own last) id s
      ≡ next_to (each (read_instruction v functions) rows) (read_value v functions last own) s
  unfolding read_value read_instruction
  inside-SequenceExpression rows own last id s =
      ap (λ y. inside_value v functions y id s) (sym (reactive_values.rolls-SequenceExpression rows own last))
      ∙ opened (value.SequenceExpression rows own last) id s
      ∙ ap (λ f. bind f (λ r. read_value v functions last own r.1))
      (each-map (around_instruction v functions) (λ y. (y, inside_instruction v functions y)) rows s)

  pub inside-OptionalExpression : (x : ReactiveValue) (optional : Bool) (id : EvaluationOrder) (s : S)
      → inside_value v functions (reactive_values.OptionalExpression x optional) id s ≡ read_value v functions x id s
  unfolding read_value
  inside-OptionalExpression x optional id s =
      ap (λ y. inside_value v functions y id s) (sym (reactive_values.rolls-OptionalExpression x optional))
      ∙ opened (value.OptionalExpression x optional) id s

  pub inside_instruction-parts : (x : ReactiveInstruction) (s : S)
      → inside_instruction v functions x s
      ≡ next_to (v.visit_id x.id) (next_to (perhaps (v.visit_lvalue x.id) x.lvalue)
      (next_to (each (v.visit_lvalue x.id) (targets_of x.value)) (read_value v functions x.value x.id))) s
  unfolding read_value inside_value inside_instruction
  inside_instruction-parts x s =
      ap (λ f. f s) (para-roll-ReactiveInstruction (WalkAt S) (Walk S) (value_step v functions)
      (instruction_step v functions)
      (record { id = x.id; lvalue = x.lvalue; value = x.value; span = x.span }))

-- with these, `search` follows the walk of a row or value through its calls
pub ruleset reading = (
  gives_next,
  gives_fault,
  read_value-around,
  read_instruction-around,
  inside-Instruction,
  inside-LogicalExpression,
  inside-ConditionalExpression,
  inside-SequenceExpression,
  inside-OptionalExpression,
  inside_instruction-parts,
)
