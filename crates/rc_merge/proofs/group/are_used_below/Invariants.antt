use Rattle.std.proofs.Common.{◌≡◌, drop}
use Rattle.rc_merge.specs.Joining.{are_used_below}
use Rattle.rc_merge.specs.inside.LastUsesMet.{uses_of}
use Rattle.rc_merge.proofs.group.are_used_below.Given as goal

-- so far each name has its last use below the id
abbrev pub invariant-loop-name : goal.invariant-loop-name
invariant-loop-name l = are_used_below (uses_of l.known.uses.now) l.end l.names
    ≡ are_used_below (uses_of l.known.uses.now) l.end (drop l.name-index l.names)
