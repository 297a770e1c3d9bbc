use Rattle.std.proofs.Common.{drop}
use Rattle.rc_answer.proofs.StatementsSent.{IsSentSoFar}
use Rattle.rc_answer.proofs.tables.blocks.send_block.Given as goal

abbrev pub invariant-loop-statement : goal.invariant-loop-statement
invariant-loop-statement g l =
    IsSentSoFar (drop l.statement-index l.statements) l.statements l.initial.numbering l.numbering
    (g.S.Serializer.written l.initial.out) (g.S.Serializer.written l.out)
