use Rattle.std.proofs.Common.{◌≡◌, take}
use Rattle.rc_memo.specs.RowRecord.{nodes_of_rows}
use Rattle.rc_memo.proofs.expanding.expanded_nodes.Given as goal

abbrev pub invariant-loop-i : goal.invariant-loop-i
invariant-loop-i l = l.whole ≡ nodes_of_rows l.operands (take l.i l.nodes)
