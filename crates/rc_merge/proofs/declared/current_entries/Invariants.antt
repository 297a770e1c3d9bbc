use Rattle.std.proofs.Common.{◌≡◌, take}
use Rattle.rc_merge.specs.inside.Declarations.{current_of}
use Rattle.rc_merge.proofs.declared.current_entries.Given as goal

abbrev pub invariant-loop-slot : goal.invariant-loop-slot
invariant-loop-slot l = l.entries ≡ current_of l.end (take l.slot-index l.slots)
