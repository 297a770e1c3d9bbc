-- A block is marked before the parts of its value terminal are built, so what is left of the graph falls; between two
-- marks the functions call each other in one order.
use Rattle.std.proofs.Common.{ℕ, ◌+◌, ◌-◌, ◌*◌, length}
use Rattle.rc_build.specs.declared.builder.Builder.{Builder}
use Rattle.rc_build.specs.inside.ValueLoops.{RowsSoFar}
use Rattle.rc_build.proofs.builder.Builder.+values.Given as goal

-- ten for each block that isn't used
abbrev unused : Builder → ℕ
unused builder = 10 * (length builder.hir.now.body.blocks - length builder.marks.used)

abbrev pub decreases-build_nested : goal.decreases-build_nested
decreases-build_nested l = unused l.self.now + 9

abbrev pub decreases-build_sequence : goal.decreases-build_sequence
decreases-build_sequence l = unused l.self.now + 8

abbrev pub decreases-build_ternary : goal.decreases-build_ternary
decreases-build_ternary l = unused l.self.now + 8

abbrev pub decreases-build_logical : goal.decreases-build_logical
decreases-build_logical l = unused l.self.now + 8

abbrev pub decreases-build_optional : goal.decreases-build_optional
decreases-build_optional l = unused l.self.now + 8

abbrev pub decreases-build_arm : goal.decreases-build_arm
decreases-build_arm l = unused l.self.now + 7

abbrev pub decreases-build_condition : goal.decreases-build_condition
decreases-build_condition l = unused l.self.now + 7

abbrev pub decreases-build_value : goal.decreases-build_value
decreases-build_value l = unused l.self.now + 6

abbrev pub decreases-build_rows : goal.decreases-build_rows
decreases-build_rows l = unused l.self.now + 5

abbrev pub decreases-build_step : goal.decreases-build_step
decreases-build_step l = unused l.self.now + 4

abbrev pub decreases-build_row : goal.decreases-build_row
decreases-build_row l = unused l.self.now + 3

abbrev pub invariant-build_rows-rows : goal.invariant-build_rows-rows
invariant-build_rows-rows l = RowsSoFar l.fn.self l.self l.fn.key l.fn.around l.pending l.at

abbrev pub decreases-build_rows-rows : goal.decreases-build_rows-rows
decreases-build_rows-rows l = length l.self.hir.now.body.blocks - length l.self.marks.used
