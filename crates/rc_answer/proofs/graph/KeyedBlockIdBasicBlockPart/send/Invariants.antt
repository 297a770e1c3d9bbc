use Rattle.std.proofs.Common.{take}
use Rattle.rc_doc.specs.Graph.{keyed_block_of}
use Rattle.rc_show.proofs.ShownLists.{SentSoFar}
use Rattle.rc_flat.specs.ShownGraph.{keyed_block_data}
use Rattle.rc_answer.proofs.graph.KeyedBlockIdBasicBlockPart.send.Given as goal

abbrev pub invariant-loop-i : goal.invariant-loop-i
invariant-loop-i g l =
    SentSoFar keyed_block_of keyed_block_data (take l.i l.self) (g.S.Serializer.written l.initial.out)
    (g.S.Serializer.written l.out)
