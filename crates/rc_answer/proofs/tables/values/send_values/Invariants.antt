use Rattle.rc_answer.proofs.ValueDepths.{deepest}
use Rattle.rc_answer.proofs.ValuesSent.{AreSentSoFar}
use Rattle.rc_answer.proofs.tables.values.send_values.Given as goal

abbrev pub decreases-loop-alloc : goal.decreases-loop-alloc
decreases-loop-alloc g l = deepest l.level

abbrev pub invariant-loop-alloc : goal.invariant-loop-alloc
invariant-loop-alloc g l =
    AreSentSoFar l.fn.values l.level l.numbered (g.S.Serializer.written l.initial.out) (g.S.Serializer.written l.out)
