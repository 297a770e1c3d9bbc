use Rattle.std.proofs.Common.{All, Contains, take}
use Rattle.rc_why.proofs.pairs.are_among.Given as goal

abbrev pub invariant-loop-pair : goal.invariant-loop-pair
invariant-loop-pair l = All (Contains l.others) (take l.pair-index l.pairs)
