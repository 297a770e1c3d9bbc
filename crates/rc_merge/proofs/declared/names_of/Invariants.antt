use Rattle.std.proofs.Common.{◌≡◌, map, take}
use Rattle.rc_merge.specs.Joining.{declared_name}
use Rattle.rc_merge.proofs.declared.names_of.Given as goal

abbrev pub invariant-loop-entry : goal.invariant-loop-entry
invariant-loop-entry l = l.names ≡ map (declared_name l.known.env.now) (take l.entry-index l.entries)
