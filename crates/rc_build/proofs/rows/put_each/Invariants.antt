use Rattle.std.proofs.Common.{take}
use Rattle.rc_build.specs.inside.Rows.{RowsSoFar}
use Rattle.rc_build.proofs.rows.put_each.Given as goal

abbrev pub invariant-loop-number : goal.invariant-loop-number
invariant-loop-number l = RowsSoFar l.hir (take l.number-index l.block.instructions) l.initial.out l.out
