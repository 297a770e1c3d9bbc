use Rattle.std.proofs.Common.{arith}
use Rattle.rc_memo.proofs.ExpandedLemmas.{nodes_more}
use Rattle.rc_memo.proofs.expanding.expanded_nodes.Goals as goal

pub loop-i-preserved : goal.loop-i-preserved
loop-i-preserved c =
    nodes_more c.args.operands.now c.args.nodes.now c.loop-i.i c.loop-i.whole c.put_entry.new.whole (omega arith)
    c.len-i-end.ensures.distinct c.loop-i.invariant c.in_ok-put_entry.ensures
