use Rattle.std.proofs.Common.{Contains, take}
use Rattle.rc_why.specs.Pairs.{whole}
use Rattle.rc_why.proofs.pairs.has_pair.Given as goal

abbrev pub invariant-loop-pair : goal.invariant-loop-pair
invariant-loop-pair l = ¬ Contains (take l.pair-index l.pairs) (whole l.declaration)
