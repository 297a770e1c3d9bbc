use Rattle.std.proofs.Common.{drop}
use Rattle.rc_replay.specs.inside.GraphTable.{AreLaid}
use Rattle.rc_replay.proofs.graph.add_block.Given as goal

abbrev pub invariant-loop-i : goal.invariant-loop-i
invariant-loop-i l = AreLaid l.hir l.env l.block.terminal l.fn.rows l.rows (drop l.i l.block.instructions) l.next
