-- Nested values as a table. A value that is an instruction is in its place; any other is an entry of the table and has
-- its number there.
--
-- The values of a list get their entries one after the other; the nested values inside of one come after the rest of
-- the list. So the numbers rise by one from left to right in the text of the table.
use Rattle.std.specs.Prelude.{◌≡◌, ℕ, ◌+◌, List, [], ◌∷◌, ◌++◌, Option, Some, None, length}
use Rattle.rc_tree.specs.Model.{ReactiveInstruction, ReactiveValue}
use Rattle.rc_tree.specs.declared.value.ReactiveValue.{out-ReactiveValue}
use Rattle.rc_tree.specs.declared.value.ReactiveValue.TheOpen as layer
use Rattle.rc_tree.specs.declared.value.ReactiveValue.TheOpen.{ReactiveValue-F}
use Rattle.rc_flat.specs.Model.{FlatInstruction, FlatValue, NestedValue}
use Rattle.rc_flat.specs.declared.value.FlatValue.TheVariants as flat
use Rattle.rc_flat.specs.declared.value.NestedValue.TheVariants as entry

-- a value's variant, with its parts
abbrev pub UnrolledValue : Type 0
UnrolledValue = ReactiveValue-F ReactiveValue ReactiveInstruction

-- the value in its place, if `next` is the next number
abbrev pub flat_layer : ℕ → UnrolledValue → FlatValue
flat_layer next (layer.Instruction x) = flat.Instruction x
flat_layer next _ = flat.Nested next

unfoldable pub flat_value : ℕ → ReactiveValue → FlatValue
flat_value next x = flat_layer next (out-ReactiveValue x)

-- the value in a list, if it isn't an instruction
abbrev pub nested_layer : ReactiveValue → UnrolledValue → List ReactiveValue
nested_layer x (layer.Instruction y) = []
nested_layer x _ = x ∷ []

unfoldable pub nested : ReactiveValue → List ReactiveValue
nested x = nested_layer x (out-ReactiveValue x)

-- the next number after a value
abbrev pub after_value : ℕ → ReactiveValue → ℕ
after_value next x = next + length (nested x)

-- rows, and the nested values of rows
abbrev pub flat_row : ℕ → ReactiveInstruction → FlatInstruction
flat_row next row =
    record { id = row.id; lvalue = row.lvalue; value = flat_value next row.value; span = row.span }

abbrev pub flat_rows : ℕ → List ReactiveInstruction → List FlatInstruction
flat_rows next [] = []
flat_rows next (row ∷ rows) = flat_row next row ∷ flat_rows (after_value next row.value) rows

abbrev pub nested_in_rows : List ReactiveInstruction → List ReactiveValue
nested_in_rows [] = []
nested_in_rows (row ∷ rows) = nested row.value ++ nested_in_rows rows

-- the nested values inside of a value, in the order of the text
abbrev pub inside_layer : UnrolledValue → List ReactiveValue
inside_layer (layer.Instruction x) = []
inside_layer (layer.LogicalExpression operator left right) = nested left ++ nested right
inside_layer (layer.ConditionalExpression test consequent alternate) =
    nested alternate ++ (nested consequent ++ nested test)
inside_layer (layer.SequenceExpression rows id x) = nested_in_rows rows ++ nested x
inside_layer (layer.OptionalExpression x optional) = nested x

unfoldable pub inside_value : ReactiveValue → List ReactiveValue
inside_value x = inside_layer (out-ReactiveValue x)

-- the entry of a value, if `next` is the next number; an instruction has none
abbrev pub entry_layer : ℕ → UnrolledValue → Option NestedValue
entry_layer next (layer.Instruction x) = None
entry_layer next (layer.LogicalExpression operator left right) =
    Some (entry.LogicalExpression operator (flat_value next left) (flat_value (after_value next left) right))
entry_layer next (layer.ConditionalExpression test consequent alternate) =
    Some (entry.ConditionalExpression (flat_value (after_value (after_value next alternate) consequent) test)
    (flat_value (after_value next alternate) consequent) (flat_value next alternate))
entry_layer next (layer.SequenceExpression rows id x) =
    Some (entry.SequenceExpression (flat_rows next rows) id (flat_value (next + length (nested_in_rows rows)) x))
entry_layer next (layer.OptionalExpression x optional) = Some (entry.OptionalExpression (flat_value next x) optional)

unfoldable pub entry_of : ℕ → ReactiveValue → Option NestedValue
entry_of next x = entry_layer next (out-ReactiveValue x)

-- the values have these entries, if `next` is the number of the first value inside of them
pub data ListsValues : ℕ → List ReactiveValue → List NestedValue → Type 0 where
  no_value : {next : ℕ} → ListsValues next [] []
  value : {next : ℕ} {x : ReactiveValue} {later : List ReactiveValue} {first : NestedValue} {others : List NestedValue}
      → entry_of next x ≡ Some first
      → ListsValues (next + length (inside_value x)) (later ++ inside_value x) others
      → ListsValues next (x ∷ later) (first ∷ others)
