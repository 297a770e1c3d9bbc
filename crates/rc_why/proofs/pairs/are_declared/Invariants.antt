use Rattle.std.proofs.Common.{All, Contains, map, take}
use Rattle.rc_why.specs.Pairs.{whole}
use Rattle.rc_why.proofs.pairs.are_declared.Given as goal

abbrev pub invariant-loop-pair : goal.invariant-loop-pair
invariant-loop-pair l = All (Contains (map whole l.declarations)) (take l.pair-index l.pairs)
