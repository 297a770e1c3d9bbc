use Rattle.std.proofs.Common.{◌≡◌, take}
use Rattle.rc_equality.proofs.containers.ListEquals.equals.Given as goal

abbrev pub invariant-loop-i : goal.invariant-loop-i
invariant-loop-i g l = take l.i l.item-items ≡ take l.i l.others
