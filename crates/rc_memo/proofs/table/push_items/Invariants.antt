use Rattle.std.proofs.Common.{◌≡◌, ◌++◌, take}
use Rattle.std.specs.List.{flat_map}
use Rattle.rc_memo.specs.Table.{item_levels}
use Rattle.rc_memo.proofs.table.push_items.Given as goal

abbrev pub invariant-loop-item : goal.invariant-loop-item
invariant-loop-item l = l.levels ≡ l.fn.levels ++ flat_map item_levels (take l.item-index l.item-items)
