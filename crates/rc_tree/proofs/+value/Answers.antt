use Rattle.std.proofs.Common.{◌<◌, suc, subst, arith}
use denote.Param.Weighed.{most}
use Rattle.rc_tree.proofs.ValueDropLemmas.{most_rows, some_depth, parts_of_logical, parts_of_conditional}
use Rattle.rc_tree.proofs.value.ReactiveInstruction.TheLaws as row
use Rattle.rc_tree.proofs.value.ReactiveValue.TheLaws as value
use Rattle.rc_tree.specs.declared.value.ReactiveValue.TheVariants as tree
use Rattle.rc_tree.proofs.+value.Goals as goal

pub value::ReactiveValue::drop_parts-returns-in-Err-put : goal.value::ReactiveValue::drop_parts-returns-in-Err-put
value::ReactiveValue::drop_parts-returns-in-Err-put t c = λ n h k.
    let it = c.in-LogicalExpression in
    let less = parts_of_logical it._operator it.left it.right n (subst (λ x. value.the_size x < n) it.is h) in
    c.put-in-LogicalExpression.ensures.put n (rw c.into_inner-in-LogicalExpression.ensures less.1)
    (c.put.ensures.put n (rw c.into_inner.ensures less.0) k)

pub value::ReactiveValue::drop_parts-returns-in_default-put :
    goal.value::ReactiveValue::drop_parts-returns-in_default-put
value::ReactiveValue::drop_parts-returns-in_default-put t c = λ n h k.
    let it = c.in-LogicalExpression in
    let less = parts_of_logical it._operator it.left it.right n (subst (λ x. value.the_size x < n) it.is h) in
    c.put-in-LogicalExpression.ensures.put n (rw c.into_inner-in-LogicalExpression.ensures less.1)
    (c.put.ensures.put n (rw c.into_inner.ensures less.0) k)

pub value::ReactiveValue::drop_parts-returns-in-Err-put-4 : goal.value::ReactiveValue::drop_parts-returns-in-Err-put-4
value::ReactiveValue::drop_parts-returns-in-Err-put-4 t c = λ n h k.
    let it = c.in-ConditionalExpression in
    let less = parts_of_conditional it.test it.consequent it.alternate n (subst (λ x. value.the_size x < n) it.is h) in
    c.put-in-ConditionalExpression-3.ensures.put n (rw c.into_inner-in-ConditionalExpression-3.ensures less.2)
    (c.put-in-ConditionalExpression-2.ensures.put n (rw c.into_inner-in-ConditionalExpression-2.ensures less.1)
    (c.put-in-ConditionalExpression.ensures.put n (rw c.into_inner-in-ConditionalExpression.ensures less.0) k))

pub value::ReactiveValue::drop_parts-returns-in_default-put-4 :
    goal.value::ReactiveValue::drop_parts-returns-in_default-put-4
value::ReactiveValue::drop_parts-returns-in_default-put-4 t c = λ n h k.
    let it = c.in-ConditionalExpression in
    let less = parts_of_conditional it.test it.consequent it.alternate n (subst (λ x. value.the_size x < n) it.is h) in
    c.put-in-ConditionalExpression-3.ensures.put n (rw c.into_inner-in-ConditionalExpression-3.ensures less.2)
    (c.put-in-ConditionalExpression-2.ensures.put n (rw c.into_inner-in-ConditionalExpression-2.ensures less.1)
    (c.put-in-ConditionalExpression.ensures.put n (rw c.into_inner-in-ConditionalExpression.ensures less.0) k))

pub value::ReactiveValue::drop-drop_levels-requires-in-ConditionalExpression :
    goal.value::ReactiveValue::drop-drop_levels-requires-in-ConditionalExpression
value::ReactiveValue::drop-drop_levels-requires-in-ConditionalExpression t c =
    let it = c.in-ConditionalExpression in
    let n = value.the_size c.args.self in
    let whole : value.the_size (tree.ConditionalExpression it.test it.consequent it.alternate) < suc n =
    subst (λ x. value.the_size x < suc n) it.is (omega arith) in
    let less = parts_of_conditional it.test it.consequent it.alternate (suc n) whole in
    let inside : most row.the_size c.drop_parts-in-ConditionalExpression-3.new.inside < n =
    c.drop_parts-in-ConditionalExpression-3.ensures n
    (rw c.into_inner-in-ConditionalExpression-3.ensures (omega (arith, less.2)))
    (c.drop_parts-in-ConditionalExpression-2.ensures n
    (rw c.into_inner-in-ConditionalExpression-2.ensures (omega (arith, less.1)))
    (c.drop_parts-in-ConditionalExpression.ensures n
    (rw c.into_inner-in-ConditionalExpression.ensures (omega (arith, less.0)))
    (rw c.new-inside-in-ConditionalExpression.ensures (omega (arith, less.0))))) in
    (omega (arith, c.decreases, inside, some_depth it.test, less.0), tt)

pub value::drops::drop_levels-loop-inside-smaller : goal.value::drops::drop_levels-loop-inside-smaller
value::drops::drop_levels-loop-inside-smaller t c =
    let level = c.loop-inside.inside in
    c.loop-row.invariant.inside (most row.the_size level) (rw c.take-level.ensures.list (omega arith))
    (rw c.take-level.ensures.left (most_rows level c.loop-inside-test.ensures.1))
