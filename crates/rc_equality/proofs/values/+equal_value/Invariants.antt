use Rattle.std.proofs.Common.{◌≡◌, take}
use Rattle.rc_equality.proofs.values.+equal_value.Given as goal

abbrev pub invariant-are_equal_rows-loop-i : goal.invariant-are_equal_rows-loop-i
invariant-are_equal_rows-loop-i l = take l.i l.row-items ≡ take l.i l.others
