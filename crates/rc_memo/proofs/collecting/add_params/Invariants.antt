use Rattle.std.proofs.Common.{take}
use Rattle.rc_memo.specs.inside.Recording.{AddsParams}
use Rattle.rc_memo.proofs.collecting.add_params.Given as goal

abbrev pub invariant-loop-param : goal.invariant-loop-param
invariant-loop-param l =
    AddsParams l.reader.env.now (take l.param-index l.param-items) l.fn.recording l.recording
