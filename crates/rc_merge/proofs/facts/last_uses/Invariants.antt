use Rattle.std.proofs.Common.{◌≡◌, map, take}
use Rattle.rc_merge.specs.inside.LastUsesMet.{uses_of}
use Rattle.rc_merge.specs.inside.Told.{noted_use}
use Rattle.rc_merge.proofs.facts.last_uses.Given as goal

abbrev pub invariant-loop-name : goal.invariant-loop-name
invariant-loop-name l = l.uses ≡ map (noted_use (uses_of l.known.uses.now)) (take l.name-index l.names)
