use Rattle.std.proofs.Common.{All, Contains, take}
use Rattle.rc_why.specs.Pairs.{whole}
use Rattle.rc_why.proofs.pairs.have_pairs.Given as goal

abbrev pub invariant-loop-declaration : goal.invariant-loop-declaration
invariant-loop-declaration l =
    All (λ declaration. Contains l.pairs (whole declaration)) (take l.declaration-index l.declarations)
