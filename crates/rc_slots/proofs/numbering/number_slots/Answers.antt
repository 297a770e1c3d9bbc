use Rattle.std.proofs.Common.{◌≤◌, ap, arith, length, subst, sym}
use Rattle.rc_slots.specs.Slots.{IsPlan}
use Rattle.rc_slots.proofs.NumberingLemmas.{ended, numbered_plan}
use Rattle.rc_slots.proofs.numbering.number_slots.Goals as goal

pub returns-clause-plan : goal.returns-clause-plan
returns-clause-plan c =
    let past : length c.args.all.now ≤ c.loop-lengths.lengths-index = omega arith in
    subst IsPlan (sym (ended c.args.all.now c.loop-lengths.plan c.loop-lengths.lengths-index past
    c.loop-lengths.invariant)) (numbered_plan c.args.all.now)

pub returns-clause-fits : goal.returns-clause-fits
returns-clause-fits c =
    let past : length c.args.all.now ≤ c.loop-lengths.lengths-index = omega arith in
    let total = ap (λ plan. plan.total) (ended c.args.all.now c.loop-lengths.plan c.loop-lengths.lengths-index past
    c.loop-lengths.invariant) in
    let fits = c.loop-lengths.invariant.fits in
    omega arith
