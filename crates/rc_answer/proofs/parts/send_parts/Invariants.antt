use Rattle.std.proofs.Common.{take}
use Rattle.rc_show.proofs.ShownLists.{SentSoFar}
use Rattle.rc_answer.proofs.parts.send_parts.Given as goal

abbrev pub invariant-loop-part : goal.invariant-loop-part
invariant-loop-part g l =
    SentSoFar g.T.Part.reads g.T.Part.shows (take l.part-index l.parts)
    (g.S.Serializer.written l.initial.out) (g.S.Serializer.written l.out)
