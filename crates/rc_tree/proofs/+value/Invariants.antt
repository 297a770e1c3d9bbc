-- Each call of the cycle is of a value or a list of rows that is less deep.
use Rattle.std.proofs.Common.{◌≤◌, ◌<◌, ℕ, max, length}
use denote.Param.Weighed.{most}
use Rattle.rc_tree.proofs.+value.Given as goal
use Rattle.rc_tree.proofs.value.ReactiveInstruction.TheLaws as row
use Rattle.rc_tree.proofs.value.ReactiveValue.TheLaws as value

abbrev pub decreases-value::ReactiveValue::drop : goal.decreases-value::ReactiveValue::drop
decreases-value::ReactiveValue::drop l = value.the_size l.self

abbrev pub decreases-value::ReactiveValue::drop_parts : goal.decreases-value::ReactiveValue::drop_parts
decreases-value::ReactiveValue::drop_parts l = value.the_size l.self

abbrev pub decreases-value::drops::drop_levels : goal.decreases-value::drops::drop_levels
decreases-value::drops::drop_levels l = max 1 (most row.the_size l.inside)

-- no level is deeper than the one before
abbrev pub invariant-value::drops::drop_levels-loop-inside : goal.invariant-value::drops::drop_levels-loop-inside
invariant-value::drops::drop_levels-loop-inside l = most row.the_size l.inside ≤ most row.the_size l.initial.inside

abbrev pub decreases-value::drops::drop_levels-loop-inside : goal.decreases-value::drops::drop_levels-loop-inside
decreases-value::drops::drop_levels-loop-inside l = most row.the_size l.inside

-- the rows that are left are no deeper than the level, and those inside are less deep
abbrev pub invariant-value::drops::drop_levels-loop-row : goal.invariant-value::drops::drop_levels-loop-row
invariant-value::drops::drop_levels-loop-row l = record {
  rest : most row.the_size l.level ≤ most row.the_size l.initial.level;
  inside : (n : ℕ) → most row.the_size l.initial.level ≤ n → most row.the_size l.initial.inside < n
      → most row.the_size l.inside < n;
}

abbrev pub decreases-value::drops::drop_levels-loop-row : goal.decreases-value::drops::drop_levels-loop-row
decreases-value::drops::drop_levels-loop-row l = length l.level
