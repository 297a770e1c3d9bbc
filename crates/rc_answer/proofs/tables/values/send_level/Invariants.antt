use Rattle.std.proofs.Common.{drop, map}
use Rattle.rc_answer.proofs.ValuesSent.{IsLevelSoFar}
use Rattle.rc_answer.proofs.tables.values.send_level.Given as goal

abbrev pub invariant-loop-value : goal.invariant-loop-value
invariant-loop-value g l =
    IsLevelSoFar (map (λ value. value.now) (drop l.value-index l.level)) (map (λ value. value.now) l.level)
    l.initial.numbered l.numbered (g.S.Serializer.written l.initial.out) (g.S.Serializer.written l.out)
