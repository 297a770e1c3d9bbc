use Rattle.rc_answer.proofs.ItemsGo.{cases_go}
use Rattle.rc_answer.proofs.NumberingLemmas.{all_done, next_done, nothing_done}
use Rattle.rc_answer.proofs.numbering.blocks.Numbered+ReactiveBlock.cases.Goals as goal

pub loop-case-init : goal.loop-case-init
loop-case-init c = nothing_done _ _ _ _ cases_go _ _ _ c.new-flat.ensures

pub loop-case-preserved : goal.loop-case-preserved
loop-case-preserved c =
    next_done _ _ _ _ cases_go _ _ _ _ _ _ _ _ _ c.loop-case-test.true c.case-item.is c.loop-case.invariant
    c.in_ok-case.ensures.case c.in_ok-case.ensures.grows c.in_ok-push.ensures.ok

pub returns-clause-cases : goal.returns-clause-cases
returns-clause-cases c = (all_done _ _ _ _ cases_go _ _ _ _ _ c.loop-case-test.false c.loop-case.invariant).0

pub returns-clause-grows : goal.returns-clause-grows
returns-clause-grows c = (all_done _ _ _ _ cases_go _ _ _ _ _ c.loop-case-test.false c.loop-case.invariant).1
