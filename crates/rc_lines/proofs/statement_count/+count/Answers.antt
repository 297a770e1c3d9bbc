use Rattle.rc_lines.proofs.StatementCount.{added-case}
use Rattle.rc_lines.proofs.statement_count.+count.Goals as goal

pub add_cases-loop-case-preserved : goal.add_cases-loop-case-preserved
add_cases-loop-case-preserved t c id =
    added-case c.loop-case.count c.add_if_there.new.count _ c.args.cases.now c.loop-case.case-index c.case-item.result
    id c.loop-case-test.true c.case-item.is c.in_ok-add_if_there.ensures (c.loop-case.invariant id)
