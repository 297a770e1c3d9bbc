use Rattle.std.proofs.Common.{All, take}
use Rattle.rc_why.specs.Fits.{IsUsedBelow}
use Rattle.rc_why.proofs.fits.are_used_below.Given as goal

abbrev pub invariant-loop-noted : goal.invariant-loop-noted
invariant-loop-noted l = All (IsUsedBelow l.end) (take l.noted-index l.uses)
