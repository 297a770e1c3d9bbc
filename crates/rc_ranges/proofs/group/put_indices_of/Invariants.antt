use Rattle.std.proofs.Common.{◌≡◌, ◌++◌, take}
use Rattle.rc_ranges.specs.inside.Entries.{indices_at}
use Rattle.rc_ranges.proofs.group.put_indices_of.Given as goal

abbrev pub invariant-loop-entry : goal.invariant-loop-entry
invariant-loop-entry l =
    l.indices.items ≡ l.fn.indices.items ++ indices_at l.id (take l.entry-index l.entries)
