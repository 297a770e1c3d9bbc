use Rattle.rc_merge.proofs.MergeLemmas.{list_left}
use Rattle.rc_merge.proofs.merge.MergeTransformStatementTransform.leave_block.Goals as goal

pub returns : goal.returns
returns c =
    list_left c.args.merging.now _ c.merge_list.new.tables _
    (rw c.take-statements.ensures.list at c.in_ok-block.ensures)
