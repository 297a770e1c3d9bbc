use Rattle.std.proofs.Common.{◌≡◌, ◌++◌, length, reverse}
use Rattle.rc_merge.specs.inside.ListSteps.{row_statements}
use Rattle.rc_merge.proofs.group.push_rows.Given as goal

-- the rows that are left come last
abbrev pub invariant-loop-row : goal.invariant-loop-row
invariant-loop-row l =
    l.statements ++ row_statements (reverse l.left) ≡ l.fn.statements ++ row_statements l.fn.rows

abbrev pub decreases-loop-row : goal.decreases-loop-row
decreases-loop-row l = length l.left
