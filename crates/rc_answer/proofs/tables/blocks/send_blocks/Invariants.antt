use Rattle.rc_answer.proofs.BlockDepths.{deepest}
use Rattle.rc_answer.proofs.LevelsSent.{AreSentSoFar}
use Rattle.rc_answer.proofs.tables.blocks.send_blocks.Given as goal

abbrev pub decreases-loop-alloc : goal.decreases-loop-alloc
decreases-loop-alloc g l = deepest l.level

abbrev pub invariant-loop-alloc : goal.invariant-loop-alloc
invariant-loop-alloc g l =
    AreSentSoFar l.body l.level l.numbering (g.S.Serializer.written l.initial.out) (g.S.Serializer.written l.out)
