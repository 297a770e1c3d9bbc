use Rattle.std.proofs.Common.{take}
use Rattle.rc_memo.specs.inside.Recording.{AddsMentions}
use Rattle.rc_memo.proofs.reader.RowReader.add_mentions.Given as goal

abbrev pub invariant-loop-operand : goal.invariant-loop-operand
invariant-loop-operand l =
    AddsMentions l.self.env.now l.id (take l.operand-index l.operands) l.fn.recording l.recording
