use Rattle.std.proofs.Common.{◌≡◌, drop}
use Rattle.std.specs.Cmp.Lexicographic.{slice_cmp}
use Rattle.rc_merge.specs.inside.InputOrder.{step_order}
use Rattle.rc_merge.proofs.input.compare_paths.Given as goal

abbrev pub invariant-loop-i : goal.invariant-loop-i
invariant-loop-i l = slice_cmp step_order (drop l.i l.a) (drop l.i l.b) ≡ slice_cmp step_order l.a l.b
