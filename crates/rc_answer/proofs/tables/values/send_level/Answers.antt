use Rattle.rc_answer.proofs.ValuesSent.{level_sent, next_sent, nothing_sent, values_grown}
use Rattle.rc_answer.proofs.tables.values.send_level.Goals as goal

pub loop-value-init : goal.loop-value-init
loop-value-init g c = nothing_sent _ _ _

pub loop-value-preserved : goal.loop-value-preserved
loop-value-preserved g c =
    next_sent (λ value. value.now) _ _ _ _ _ _ _ _ _ c.loop-value-test.true c.value-item.is c.loop-value.invariant
    c.in_ok-send_value.ensures.sent c.in_ok-send_value.ensures.grows

pub returns-clause-sent : goal.returns-clause-sent
returns-clause-sent g c = level_sent (λ value. value.now) _ _ _ _ _ _ c.loop-value-test.false c.loop-value.invariant

pub returns-clause-grows : goal.returns-clause-grows
returns-clause-grows g c =
    values_grown (λ value. value.now) _ _ _ _ _ _ c.loop-value-test.false c.loop-value.invariant
