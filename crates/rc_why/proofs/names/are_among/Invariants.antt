use Rattle.std.proofs.Common.{All, Contains, take}
use Rattle.rc_why.proofs.names.are_among.Given as goal

abbrev pub invariant-loop-name : goal.invariant-loop-name
invariant-loop-name l = All (Contains l.others) (take l.name-index l.names)
