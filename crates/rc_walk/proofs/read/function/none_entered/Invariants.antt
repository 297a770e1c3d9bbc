use Rattle.std.proofs.Common.{◌≡◌, false, map, take}
use Rattle.rc_walk.proofs.read.function.none_entered.Given as goal

abbrev pub invariant-loop-function : goal.invariant-loop-function
invariant-loop-function l = l.entered ≡ map (λ x. false) (take l.function-index l.functions)
