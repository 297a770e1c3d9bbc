use Rattle.std.proofs.Common.{take}
use Rattle.std.specs.List.{flat_map}
use Rattle.rc_memo.specs.RowEvents.{argument_events}
use Rattle.rc_memo.specs.inside.Recording.{Tells}
use Rattle.rc_memo.proofs.reader.RowReader.add_each_argument.Given as goal

abbrev pub invariant-loop-argument : goal.invariant-loop-argument
invariant-loop-argument l = Tells l.self.env.now
    (flat_map (argument_events l.self.env.now) (take l.argument-index l.argument-items)) l.fn.recording l.recording
