use Rattle.std.proofs.Common.{take}
use Rattle.std.specs.Map.{values_of}
use Rattle.rc_replay.specs.inside.GraphTable.{AreEntries}
use Rattle.rc_replay.proofs.graph.graph_table.Given as goal

abbrev pub invariant-loop-block : goal.invariant-loop-block
invariant-loop-block l = AreEntries l.hir l.env l.rows l.table (take l.block-index (values_of l.hir.body.blocks))
