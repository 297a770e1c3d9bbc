use Rattle.std.proofs.Common.{◌≡◌, ◌++◌, take}
use Rattle.std.specs.List.{flat_map}
use Rattle.rc_memo.specs.Table.{if_mutable}
use Rattle.rc_memo.proofs.table.push_mutable.Given as goal

abbrev pub invariant-loop-operand : goal.invariant-loop-operand
invariant-loop-operand l = l.levels ≡ l.fn.levels ++ flat_map if_mutable (take l.operand-index l.operands)
