use Rattle.std.proofs.Common.{◌≡◌, ◌++◌, take}
use Rattle.rc_ranges.specs.inside.Entries.{indices_at, joined}
use Rattle.rc_ranges.proofs.section.put_indices_of.Given as goal

abbrev pub invariant-loop-group : goal.invariant-loop-group
invariant-loop-group l =
    l.indices.items ≡ l.fn.indices.items ++ indices_at l.id (joined (take l.group-index l.groups))
