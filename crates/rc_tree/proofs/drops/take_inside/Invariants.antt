-- So far the level is no deeper than at first, and the statements that were moved are less deep.
use Rattle.std.proofs.Common.{◌≤◌, ◌<◌, ℕ}
use denote.Param.Weighed.{most}
use Rattle.rc_tree.proofs.drops.take_inside.Given as goal
use Rattle.rc_tree.proofs.statement.ReactiveStatement.TheLaws as statement

abbrev pub invariant-loop-i : goal.invariant-loop-i
invariant-loop-i l = record {
  rest : most statement.the_size l.level ≤ most statement.the_size l.fn.level;
  taken : (n : ℕ) → most statement.the_size l.fn.level ≤ n → most statement.the_size l.fn.inside < n
      → most statement.the_size l.inside < n;
}
