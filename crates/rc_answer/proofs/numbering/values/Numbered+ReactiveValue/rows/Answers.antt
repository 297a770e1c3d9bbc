use Rattle.rc_answer.proofs.ItemsGo.{rows_go}
use Rattle.rc_answer.proofs.NumberingLemmas.{all_done, next_done, nothing_done}
use Rattle.rc_answer.proofs.numbering.values.Numbered+ReactiveValue.rows.Goals as goal

pub loop-row-init : goal.loop-row-init
loop-row-init c = nothing_done _ _ _ _ rows_go _ _ _ c.new-views.ensures

pub loop-row-preserved : goal.loop-row-preserved
loop-row-preserved c =
    next_done _ _ _ _ rows_go _ _ _ _ _ _ _ _ _ c.loop-row-test.true c.row-item.is c.loop-row.invariant
    c.in_ok-view.ensures.row c.in_ok-view.ensures.grows c.in_ok-push.ensures.ok

pub returns-clause-rows : goal.returns-clause-rows
returns-clause-rows c = (all_done _ _ _ _ rows_go _ _ _ _ _ c.loop-row-test.false c.loop-row.invariant).0

pub returns-clause-grows : goal.returns-clause-grows
returns-clause-grows c = (all_done _ _ _ _ rows_go _ _ _ _ _ c.loop-row-test.false c.loop-row.invariant).1
