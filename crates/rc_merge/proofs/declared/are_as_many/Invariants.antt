use Rattle.std.proofs.Common.{◌≡◌, ◌+◌, drop, length}
use Rattle.std.specs.List.{filter}
use Rattle.rc_merge.specs.inside.Declarations.{is_current}
use Rattle.rc_merge.proofs.declared.are_as_many.Given as goal

-- as many are missing as before this slot were found
abbrev pub invariant-loop-slot : goal.invariant-loop-slot
invariant-loop-slot l = length (filter (is_current l.end) (drop l.slot-index l.slots)) + l.count
    ≡ length (filter (is_current l.end) l.slots) + l.left
