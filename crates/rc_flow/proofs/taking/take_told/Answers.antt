use Rattle.rc_flow.proofs.TakenLemmas.{next_told}
use Rattle.rc_flow.proofs.taking.take_told.Goals as goal

pub loop-one-preserved : goal.loop-one-preserved
loop-one-preserved c = record {
  steps = next_told c.args.env.now c.args.told.now c.loop-one.one-index c.one-item.result c.loop-one.spread
      c.take_one.new.spread _ c.loop-one-test.true c.one-item.is c.in_ok-take_one.ensures.steps
      c.loop-one.invariant.steps;
  taken = c.in_ok-take_one.ensures.taken;
}
