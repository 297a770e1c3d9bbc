use Rattle.std.proofs.Common.{take}
use Rattle.rc_memo.specs.inside.Recording.{AddsTargets}
use Rattle.rc_memo.proofs.reader.RowReader.add_targets.Given as goal

abbrev pub invariant-loop-given : goal.invariant-loop-given
invariant-loop-given l =
    AddsTargets l.self.env.now l.id l.row (take l.given-index l.given-items) l.fn.recording l.recording
