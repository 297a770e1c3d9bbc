use Rattle.std.proofs.Common.{take}
use Rattle.std.specs.List.{flat_map}
use Rattle.rc_memo.specs.RowEvents.{row_events}
use Rattle.rc_memo.specs.inside.Recording.{Tells}
use Rattle.rc_memo.proofs.reader.RowReader.+rows.Given as goal

abbrev pub invariant-add_rows-loop-row : goal.invariant-add_rows-loop-row
invariant-add_rows-loop-row l =
    Tells l.self.env.now (flat_map (row_events l.self.env.now) (take l.row-index l.row-items)) l.fn.recording l.recording
