use Rattle.std.proofs.Common.{take}
use Rattle.rc_build.specs.inside.ValueRows.{HasRows}
use Rattle.rc_build.proofs.value_rows.sequence_rows.Given as goal

abbrev pub invariant-loop-number : goal.invariant-loop-number
invariant-loop-number l = HasRows l.hir (take l.number-index l.numbers) l.rows
