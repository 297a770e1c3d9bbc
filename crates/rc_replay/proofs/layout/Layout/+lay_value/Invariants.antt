use Rattle.std.proofs.Common.{◌≡◌, drop}
use Rattle.rc_replay.specs.declared.layout.Layout.{Layout}
use Rattle.rc_replay.specs.inside.Layout.{LaysValue, LaysRows}
use Rattle.rc_replay.specs.inside.RowOfTest.{is_last}
use Rattle.rc_replay.proofs.layout.Layout.+lay_value.Given as goal

abbrev pub invariant-rows-loop-i : goal.invariant-rows-loop-i
invariant-rows-loop-i l = (l.last ≡ is_last (drop l.i l.rows)) × ((first : Layout)
    → LaysValue l.env l.is_test l.value l.after first l.fn.self l.next
    → LaysRows l.env l.is_test (drop l.i l.rows) l.value l.after first l.self l.start)
