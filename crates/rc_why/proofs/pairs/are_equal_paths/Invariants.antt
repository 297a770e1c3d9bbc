use Rattle.std.proofs.Common.{◌≡◌, take}
use Rattle.rc_why.proofs.pairs.are_equal_paths.Given as goal

abbrev pub invariant-loop-i : goal.invariant-loop-i
invariant-loop-i l = take l.i l.path ≡ take l.i l.other
