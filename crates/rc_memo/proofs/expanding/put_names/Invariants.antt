use Rattle.std.proofs.Common.{◌≡◌, take}
use Rattle.rc_memo.specs.RowRecord.{names_but}
use Rattle.rc_memo.specs.inside.Growing.{insert_all}
use Rattle.rc_memo.proofs.expanding.put_names.Given as goal

abbrev pub invariant-loop-other : goal.invariant-loop-other
invariant-loop-other l = l.set ≡ insert_all l.fn.set (names_but l.name (take l.other-index l.names))
