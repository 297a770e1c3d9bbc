use Rattle.std.proofs.Common.{◌≡◌, [], take}
use Rattle.rc_memo.specs.RowRecord.{names_but, operands_of}
use Rattle.rc_memo.specs.inside.Growing.{insert_all}
use Rattle.rc_memo.proofs.expanding.dependencies_by_rows.Given as goal

abbrev pub invariant-loop-row : goal.invariant-loop-row
invariant-loop-row l =
    l.set ≡ insert_all [] (names_but l.name (operands_of l.operands (take l.row-index l.row-items)))
