use Rattle.std.proofs.Common.{arith}
use denote.Param.Weighed.{most}
use Rattle.rc_tree.proofs.DropLemmas.{most_some}
use Rattle.rc_tree.proofs.+tree.Goals as goal
use Rattle.rc_tree.proofs.statement.ReactiveStatement.TheLaws as statement

-- the statements inside a level are less deep than the level
pub statement::ReactiveBlock::drop-loop-self-smaller : goal.statement::ReactiveBlock::drop-loop-self-smaller
statement::ReactiveBlock::drop-loop-self-smaller t c =
    let level = c.loop-self.self.statements in
    c.take_inside.ensures.taken (most statement.the_size level) (rw c.take-level.ensures.list (omega arith))
    (rw c.take-level.ensures.left (most_some level c.loop-self-test.ensures.1))
