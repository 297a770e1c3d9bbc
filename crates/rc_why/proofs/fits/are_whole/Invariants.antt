use Rattle.std.proofs.Common.{All, take}
use Rattle.rc_why.specs.Pairs.{IsWhole}
use Rattle.rc_why.proofs.fits.are_whole.Given as goal

abbrev pub invariant-loop-pair : goal.invariant-loop-pair
invariant-loop-pair l = All IsWhole (take l.pair-index l.pairs)
