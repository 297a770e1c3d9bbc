-- The values inside a value are less deep than it, by one or more.
use Rattle.std.proofs.Common.{◌≡◌, ◌<◌, ℕ, suc, max, arith, List, [], ◌∷◌, IsTrue, false, true, refl}
use denote.Param.Weighed.{most}
use Rattle.rc_hir.specs.declared.instruction.LogicalOperator.{LogicalOperator}
use Rattle.rc_tree.specs.declared.value.ReactiveInstruction.{ReactiveInstruction, size-ReactiveInstruction}
use Rattle.rc_tree.specs.declared.value.ReactiveInstruction.{size_is-ReactiveInstruction}
use Rattle.rc_tree.specs.declared.value.ReactiveValue.{ReactiveValue, size-ReactiveValue, size_is-ReactiveValue}
use Rattle.rc_tree.specs.declared.value.ReactiveValue.TheVariants as tree

pub some_depth : (x : ReactiveValue) → 0 < size-ReactiveValue x
some_depth x = omega (arith, size_is-ReactiveValue x)

-- a list that has a row has some depth
pub most_rows : (xs : List ReactiveInstruction) → (xs ≡ [] → IsTrue false) → 0 < most size-ReactiveInstruction xs
most_rows [] h = absurd (let p : false ≡ true = h refl in cc)
most_rows (x ∷ xs) h = omega (arith, size_is-ReactiveInstruction x)

module _ (operator : LogicalOperator) (left right : ReactiveValue) where
  size_logical : size-ReactiveValue (tree.LogicalExpression operator left right)
      ≡ suc (max (size-ReactiveValue left) (size-ReactiveValue right))
  size_logical =
      let whole = tree.LogicalExpression operator left right in
      rw (size_is-ReactiveValue whole, tree.outs-LogicalExpression operator left right) (omega arith)

  pub parts_of_logical : (n : ℕ) → size-ReactiveValue (tree.LogicalExpression operator left right) < n
      → (suc (size-ReactiveValue left) < n) × (suc (size-ReactiveValue right) < n)
  parts_of_logical n h = (omega (arith, h, size_logical), omega (arith, h, size_logical))

module _ (test consequent alternate : ReactiveValue) where
  size_conditional : size-ReactiveValue (tree.ConditionalExpression test consequent alternate)
      ≡ suc (max (size-ReactiveValue test) (max (size-ReactiveValue consequent) (size-ReactiveValue alternate)))
  size_conditional =
      let whole = tree.ConditionalExpression test consequent alternate in
      rw (size_is-ReactiveValue whole, tree.outs-ConditionalExpression test consequent alternate) (omega arith)

  pub parts_of_conditional : (n : ℕ)
      → size-ReactiveValue (tree.ConditionalExpression test consequent alternate) < n
      → (suc (size-ReactiveValue test) < n) × (suc (size-ReactiveValue consequent) < n)
      × (suc (size-ReactiveValue alternate) < n)
  parts_of_conditional n h =
      (omega (arith, h, size_conditional), omega (arith, h, size_conditional), omega (arith, h, size_conditional))
