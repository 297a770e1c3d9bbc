-- Reading rows and values.
use Rattle.std.specs.Prelude.{[], ◌∷◌, Option, Some, None, codes, option_map}
use Rattle.serde_json.specs.Data.{Data}
use Rattle.rc_hir.specs.Model.{InstructionValue}
use Rattle.rc_doc.specs.Kinds.{instruction_value_of}
use Rattle.rc_doc.specs.Numbers.{id_of}
use Rattle.rc_doc.specs.Places.{place_of, span_of}
use Rattle.rc_doc.specs.Reading.{◌>>=◌, content, field, flag_field, list_field, number_of, only, option_field}
use Rattle.rc_doc.specs.Reading.{tag_of, variant}
use Rattle.rc_doc.specs.Terminals.Branches.{logical_operator_of}
use Rattle.rc_flat.specs.Model.{FlatInstruction, FlatValue, NestedValue}
use Rattle.rc_flat.specs.declared.value.FlatValue.TheVariants as values
use Rattle.rc_flat.specs.declared.value.NestedValue.TheVariants as entry

-- the number of a nested value
unfoldable pub nested_number_of : Data → Option FlatValue
nested_number_of d = do
  _ ← only (codes "k" ∷ codes "v" ∷ []) d
  name ← tag_of d
  variant ((codes "Nested", option_map values.Nested (content number_of d)) ∷ []) name

-- the instruction, if there is one, and else the number of a nested value
abbrev pub or_nested : Data → Option InstructionValue → Option FlatValue
or_nested d (Some x) = Some (values.Instruction x)
or_nested d None = nested_number_of d

-- a value in its place
unfoldable pub flat_value_of : Data → Option FlatValue
flat_value_of d = or_nested d (instruction_value_of d)

-- a row
unfoldable pub flat_instruction_of : Data → Option FlatInstruction
flat_instruction_of d = do
  _ ← only (codes "id" ∷ codes "lvalue" ∷ codes "span" ∷ codes "value" ∷ []) d
  id ← field id_of (codes "id") d
  lvalue ← option_field place_of (codes "lvalue") d
  value ← field flat_value_of (codes "value") d
  span ← option_field span_of (codes "span") d
  Some (record { id = id; lvalue = lvalue; value = value; span = span })

-- a value of an operator that may skip its right side
unfoldable pub logical_of : Data → Option NestedValue
logical_of d = do
  _ ← only (codes "k" ∷ codes "left" ∷ codes "operator" ∷ codes "right" ∷ []) d
  operator ← field logical_operator_of (codes "operator") d
  left ← field flat_value_of (codes "left") d
  right ← field flat_value_of (codes "right") d
  Some (entry.LogicalExpression operator left right)

-- a value of a conditional
unfoldable pub conditional_of : Data → Option NestedValue
conditional_of d = do
  _ ← only (codes "alternate" ∷ codes "consequent" ∷ codes "k" ∷ codes "test" ∷ []) d
  test ← field flat_value_of (codes "test") d
  consequent ← field flat_value_of (codes "consequent") d
  alternate ← field flat_value_of (codes "alternate") d
  Some (entry.ConditionalExpression test consequent alternate)

-- a value of a sequence
unfoldable pub sequence_of : Data → Option NestedValue
sequence_of d = do
  _ ← only (codes "id" ∷ codes "instructions" ∷ codes "k" ∷ codes "value" ∷ []) d
  instructions ← list_field flat_instruction_of (codes "instructions") d
  id ← field id_of (codes "id") d
  value ← field flat_value_of (codes "value") d
  Some (entry.SequenceExpression instructions id value)

-- a value of an optional chain
unfoldable pub optional_of : Data → Option NestedValue
optional_of d = do
  _ ← only (codes "k" ∷ codes "optional" ∷ codes "value" ∷ []) d
  value ← field flat_value_of (codes "value") d
  optional ← flag_field (codes "optional") d
  Some (entry.OptionalExpression value optional)

-- a nested value
unfoldable pub nested_value_of : Data → Option NestedValue
nested_value_of d = do
  name ← tag_of d
  variant (
      (codes "LogicalExpression", logical_of d)
      ∷ (codes "ConditionalExpression", conditional_of d)
      ∷ (codes "SequenceExpression", sequence_of d)
      ∷ (codes "OptionalExpression", optional_of d)
      ∷ []) name
