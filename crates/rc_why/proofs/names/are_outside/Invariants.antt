use Rattle.std.proofs.Common.{All, Contains, take}
use Rattle.rc_why.proofs.names.are_outside.Given as goal

abbrev pub invariant-loop-name : goal.invariant-loop-name
invariant-loop-name l = All (λ name. ¬ Contains l.others name) (take l.name-index l.names)
