-- So far the cases are no deeper than at first, and the statements that were moved are less deep.
use Rattle.std.proofs.Common.{◌≤◌, ◌<◌, ℕ}
use denote.Param.Weighed.{most}
use Rattle.rc_tree.proofs.drops.take_cases.Given as goal
use Rattle.rc_tree.proofs.statement.ReactiveStatement.TheLaws as statement
use Rattle.rc_tree.proofs.terminal.ReactiveSwitchCase.TheLaws as switch_case

abbrev pub invariant-loop-i : goal.invariant-loop-i
invariant-loop-i l = record {
  rest : most switch_case.the_size l.cases ≤ most switch_case.the_size l.fn.cases;
  taken : (n : ℕ) → most switch_case.the_size l.fn.cases ≤ n → most statement.the_size l.fn.inside < n
      → most statement.the_size l.inside < n;
}
