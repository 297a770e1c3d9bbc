use Rattle.std.proofs.Common.{◌≡◌, length, reverse}
use Rattle.rc_flat.specs.inside.Assembly.{from_last}
use Rattle.rc_flat.proofs.FromLast.{before}
use Rattle.rc_flat.proofs.assembly.ListAssemble.assemble.Given as goal

-- the items so far are after those that are left
abbrev pub invariant-loop-last : goal.invariant-loop-last
invariant-loop-last g l =
    before (reverse l.later) (from_last g.P.Assemble.takes l.left l.found)
    ≡ from_last g.P.Assemble.takes l.fn.self l.fn.found

abbrev pub decreases-loop-last : goal.decreases-loop-last
decreases-loop-last g l = length l.left
