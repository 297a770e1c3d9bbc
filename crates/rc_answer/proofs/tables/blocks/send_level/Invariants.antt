use Rattle.std.proofs.Common.{drop, map}
use Rattle.rc_answer.proofs.LevelsSent.{IsLevelSoFar}
use Rattle.rc_answer.proofs.tables.blocks.send_level.Given as goal

abbrev pub invariant-loop-block : goal.invariant-loop-block
invariant-loop-block g l =
    IsLevelSoFar (map (λ block. block.now) (drop l.block-index l.level)) (map (λ block. block.now) l.level)
    l.initial.numbering l.numbering (g.S.Serializer.written l.initial.out) (g.S.Serializer.written l.out)
