-- No level is deeper than the one before.
use Rattle.std.proofs.Common.{◌≤◌}
use denote.Param.Weighed.{most}
use Rattle.rc_tree.proofs.+tree.Given as goal
use Rattle.rc_tree.proofs.statement.ReactiveStatement.TheLaws as statement

abbrev pub decreases-statement::ReactiveBlock::drop : goal.decreases-statement::ReactiveBlock::drop
decreases-statement::ReactiveBlock::drop l = goal.size-statement::ReactiveBlock::drop l

abbrev pub invariant-statement::ReactiveBlock::drop-loop-self : goal.invariant-statement::ReactiveBlock::drop-loop-self
invariant-statement::ReactiveBlock::drop-loop-self l =
    most statement.the_size l.self.statements ≤ most statement.the_size l.initial.self.statements

abbrev pub decreases-statement::ReactiveBlock::drop-loop-self : goal.decreases-statement::ReactiveBlock::drop-loop-self
decreases-statement::ReactiveBlock::drop-loop-self l = most statement.the_size l.self.statements
