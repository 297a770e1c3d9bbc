use Rattle.std.proofs.Common.{Contains, take}
use Rattle.rc_why.proofs.pairs.is_one_of.Given as goal

abbrev pub invariant-loop-other : goal.invariant-loop-other
invariant-loop-other l = ¬ Contains (take l.other-index l.others) l.pair
