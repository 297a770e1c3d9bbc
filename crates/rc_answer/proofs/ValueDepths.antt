-- The nested values inside of a level are less deep than the level.
use Rattle.std.proofs.Common.{◌≤◌, ◌<◌, ℕ, List, [], ◌∷◌, ◌++◌, arith}
use denote.Hole.Carrier.{Values}
use denote.Param.Weighed.{most}
use Rattle.rc_tree.specs.Model.{ReactiveInstruction, ReactiveValue}
use Rattle.rc_tree.specs.declared.value.ReactiveInstruction.{size-ReactiveInstruction, size_is-ReactiveInstruction}
use Rattle.rc_tree.specs.declared.value.ReactiveValue.{out-ReactiveValue, size-ReactiveValue, size_is-ReactiveValue}
use Rattle.rc_tree.specs.declared.value.ReactiveValue.TheBlock as tree
use Rattle.rc_tree.specs.declared.value.ReactiveValue.TheOpen as layer
use Rattle.rc_flat.specs.Values.{inside_layer, inside_value, nested, nested_in_rows, nested_layer, UnrolledValue}
use Rattle.rc_answer.proofs.MostLemmas.{most_append}
use Rattle.rc_answer.specs.inside.Levels.{inside_values}

abbrev weigh : UnrolledValue → ℕ
weigh l = tree.weighs-ReactiveValue.weight (Values tree.the_members tree.the_sigs tree.the_carrier) tree.the_depth l

abbrev pub deepest : List ReactiveValue → ℕ
deepest = most size-ReactiveValue

nested_layer_depth : (x : ReactiveValue) (l : UnrolledValue) → deepest (nested_layer x l) ≤ size-ReactiveValue x
nested_layer_depth x (layer.Instruction y) = omega arith
nested_layer_depth x (layer.LogicalExpression operator left right) = omega arith
nested_layer_depth x (layer.ConditionalExpression test consequent alternate) = omega arith
nested_layer_depth x (layer.SequenceExpression rows id y) = omega arith
nested_layer_depth x (layer.OptionalExpression y optional) = omega arith

nested_depth : (x : ReactiveValue) → deepest (nested x) ≤ size-ReactiveValue x
unfolding nested
nested_depth x = nested_layer_depth x (out-ReactiveValue x)

rows_depth : (rows : List ReactiveInstruction) → deepest (nested_in_rows rows) ≤ most size-ReactiveInstruction rows
rows_depth [] = omega arith
rows_depth (row ∷ rows) =
    omega (
      arith,
      rows_depth rows,
      nested_depth row.value,
      size_is-ReactiveInstruction row,
      most_append size-ReactiveValue (nested row.value) (nested_in_rows rows),
    )

inside_depth : (l : UnrolledValue) → deepest (inside_layer l) ≤ weigh l
inside_depth (layer.Instruction x) = omega arith
inside_depth (layer.LogicalExpression operator left right) =
    omega (
      arith,
      nested_depth left,
      nested_depth right,
      most_append size-ReactiveValue (nested left) (nested right),
    )
inside_depth (layer.ConditionalExpression test consequent alternate) =
    omega (
      arith,
      nested_depth test,
      nested_depth consequent,
      nested_depth alternate,
      most_append size-ReactiveValue (nested consequent) (nested test),
      most_append size-ReactiveValue (nested alternate) (nested consequent ++ nested test),
    )
inside_depth (layer.SequenceExpression rows id x) =
    omega (
      arith,
      rows_depth rows,
      nested_depth x,
      most_append size-ReactiveValue (nested_in_rows rows) (nested x),
    )
inside_depth (layer.OptionalExpression x optional) = omega (arith, nested_depth x)

-- what is inside of a value is less deep than the value
value_depth : (x : ReactiveValue) → deepest (inside_value x) < size-ReactiveValue x
unfolding inside_value
value_depth x = omega (arith, inside_depth (out-ReactiveValue x), size_is-ReactiveValue x)

-- what is inside of a level is less deep than the level, if it has a value
pub level_depth : (x : ReactiveValue) (xs : List ReactiveValue) → deepest (inside_values (x ∷ xs)) < deepest (x ∷ xs)
level_depth x [] = omega (arith, value_depth x, most_append size-ReactiveValue (inside_value x) [])
level_depth x (y ∷ ys) =
    omega (
      arith,
      value_depth x,
      level_depth y ys,
      most_append size-ReactiveValue (inside_value x) (inside_values (y ∷ ys)),
    )
