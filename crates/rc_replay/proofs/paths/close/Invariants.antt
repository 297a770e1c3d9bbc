use Rattle.std.proofs.Common.{◌+◌, ◌-◌, length}
use Rattle.rc_replay.specs.inside.Closing.{Closing}
use Rattle.rc_replay.proofs.paths.close.Given as goal

abbrev pub invariant-looking : goal.invariant-looking
invariant-looking l = Closing l.table l.fn.here.keys l.here.keys l.looked

abbrev pub decreases-looking : goal.decreases-looking
decreases-looking l = length l.table + 1 - l.looked
