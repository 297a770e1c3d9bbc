-- The contents of values and rows, in the order of the text, from the contribution of each part.
use Rattle.std.specs.Prelude.{Option, None, Some, map}
use Rattle.rc_hir.specs.Model.{InstructionValue, Place}
use Rattle.rc_names.specs.Numbers.{EvaluationOrder}
use Rattle.rc_tree.specs.Joining.{Joining, all_of}
use Rattle.rc_tree.specs.Model.{ReactiveInstruction, ReactiveValue}
use Rattle.rc_tree.specs.declared.value.ReactiveValue.TheFolds.{para-ReactiveValue, para-ReactiveInstruction}
use Rattle.rc_tree.specs.declared.value.ReactiveValue.TheOpen as value
use Rattle.rc_tree.specs.declared.value.ReactiveValue.TheOpen.{ReactiveValue-F, ReactiveInstruction-F}
use Rattle.rc_tree.specs.declared.value.ReactiveValue.TheVariants as reactive_values

-- the instruction of a value, where it is no expression over other values
abbrev pub instruction_of : ReactiveValue → Option InstructionValue
instruction_of (reactive_values.Instruction instruction) = Some instruction
instruction_of _ = None

-- the contribution of each part of values and rows
pub record ValueContributions (A : Type 0) : Type 0 where
  pub joining : Joining A
  -- the value of one instruction
  pub instruction : EvaluationOrder → InstructionValue → A
  -- the target of a row, if it has one
  pub target : EvaluationOrder → Option Place → A
  -- a row as one part, from the contents of its target and of its value
  pub row : ReactiveInstruction → A → A

module _ {A : Type 0} (adds : ValueContributions A) where
  -- a value and a row, each with its contents
  abbrev pub OfValue : Type 0
  OfValue = ReactiveValue × (EvaluationOrder → A)

  abbrev pub OfRow : Type 0
  OfRow = ReactiveInstruction × A

  -- each form of value at an id; the value of a sequence is taken at the sequence's own id
  abbrev pub of_value : ReactiveValue-F OfValue OfRow → EvaluationOrder → A
  of_value (value.Instruction x) id = adds.instruction id x
  of_value (value.LogicalExpression operator left right) id = adds.joining.both (left.1 id) (right.1 id)
  of_value (value.ConditionalExpression test consequent alternate) id =
      adds.joining.both (test.1 id) (adds.joining.both (consequent.1 id) (alternate.1 id))
  of_value (value.SequenceExpression rows own x) id =
      adds.joining.both (all_of adds.joining (map (λ (row : OfRow). row.1) rows)) (x.1 own)
  of_value (value.OptionalExpression x optional) id = x.1 id

  -- a row's target comes before its value
  abbrev pub of_row : ReactiveInstruction-F OfValue OfRow → A
  of_row x = adds.row (record { id = x.id; lvalue = x.lvalue; value = x.value.0; span = x.span })
      (adds.joining.both (adds.target x.id x.lvalue) (x.value.1 x.id))

  -- the contents of a value at an id, and of a row
  unfoldable pub collected_value : ReactiveValue → EvaluationOrder → A
  collected_value = para-ReactiveValue (EvaluationOrder → A) A of_value of_row

  unfoldable pub collected_row : ReactiveInstruction → A
  collected_row = para-ReactiveInstruction (EvaluationOrder → A) A of_value of_row

  -- the contents of an optional value
  abbrev pub collected_value_if : EvaluationOrder → Option ReactiveValue → A
  collected_value_if id None = adds.joining.nothing
  collected_value_if id (Some x) = collected_value x id
