use Rattle.std.proofs.Common.{◌≡◌, length}
use Rattle.rc_flat.specs.inside.Assembly.{through, wait_value}
use Rattle.rc_flat.proofs.assembly.wait_values.Given as goal

-- the entries that are left lead from what waits now to what waits at the end
abbrev pub invariant-loop-entry : goal.invariant-loop-entry
invariant-loop-entry l = through wait_value l.left l.found ≡ through wait_value l.fn.entries l.fn.found

abbrev pub decreases-loop-entry : goal.decreases-loop-entry
decreases-loop-entry l = length l.left
