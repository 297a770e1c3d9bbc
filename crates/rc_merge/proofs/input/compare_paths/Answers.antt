use Rattle.std.proofs.Common.{◌∙◌, arith, refl, sym}
use Rattle.rc_merge.specs.inside.InputOrder.{step_order}
use Rattle.rc_merge.proofs.PathLemmas.{both_end, first_longer, goes_on, second_longer, stops}
use Rattle.rc_merge.proofs.input.compare_paths.Goals as goal

pub loop-i-init : goal.loop-i-init
loop-i-init c = refl

pub returns-then-i-b : goal.returns-then-i-b
returns-then-i-b c =
    sym (first_longer step_order c.args.a.now c.args.b.now c.loop-i.i (omega arith) (omega arith)) ∙ c.loop-i.invariant

pub returns-then-is_ne : goal.returns-then-is_ne
returns-then-is_ne c =
    stops step_order c.args.a.now c.args.b.now c.loop-i.i c.index-a-i.result c.index-b-i.result (omega arith) (omega arith)
    c.index-a-i.is c.index-b-i.is c.compare_steps-order.result c.compare_steps-order.ensures
    (sym c.is_ne.ensures ∙ c.if-is_ne.true)
    ∙ c.loop-i.invariant

pub loop-i-preserved : goal.loop-i-preserved
loop-i-preserved c =
    goes_on step_order c.args.a.now c.args.b.now c.loop-i.i c.index-a-i.result c.index-b-i.result (omega arith) (omega arith)
    c.index-a-i.is c.index-b-i.is c.compare_steps-order.result c.compare_steps-order.ensures
    (sym c.is_ne.ensures ∙ c.if-is_ne.false)
    ∙ c.loop-i.invariant

pub returns-then-a-b : goal.returns-then-a-b
returns-then-a-b c =
    sym (second_longer step_order c.args.a.now c.args.b.now c.loop-i.i (omega arith) (omega arith)) ∙ c.loop-i.invariant

pub returns-else-a-b : goal.returns-else-a-b
returns-else-a-b c =
    sym (both_end step_order c.args.a.now c.args.b.now c.loop-i.i (omega arith) (omega arith)) ∙ c.loop-i.invariant
