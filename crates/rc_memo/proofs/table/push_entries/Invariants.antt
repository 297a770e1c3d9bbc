use Rattle.std.proofs.Common.{◌≡◌, ◌++◌, take}
use Rattle.std.specs.List.{flat_map}
use Rattle.rc_memo.specs.Table.{entry_levels}
use Rattle.rc_memo.proofs.table.push_entries.Given as goal

abbrev pub invariant-loop-entry : goal.invariant-loop-entry
invariant-loop-entry l = l.levels ≡ l.fn.levels ++ flat_map entry_levels (take l.entry-index l.entry-items)
