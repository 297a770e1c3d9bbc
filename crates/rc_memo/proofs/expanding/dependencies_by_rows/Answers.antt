use Rattle.std.proofs.Common.{[]}
use Rattle.rc_memo.proofs.ExpandedLemmas.{PutsBut, puts_next}
use Rattle.rc_memo.proofs.StepsLemmas.{part_more}
use Rattle.rc_memo.specs.RowRecord.{operands_at}
use Rattle.rc_memo.proofs.expanding.dependencies_by_rows.Goals as goal

pub loop-row-preserved : goal.loop-row-preserved
loop-row-preserved c =
    part_more (PutsBut c.args.name) (puts_next c.args.name) (operands_at c.args.operands.now)
    c.as_slice-row-items.result.now c.loop-row.row-index _ [] c.loop-row.set c.put_row.new.set c.loop-row-test.true
    c.loop-row.invariant c.in_ok-put_row.ensures
