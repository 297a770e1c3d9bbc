-- The rows that are left are no deeper than all, and their walk from here is the walk of all.
use Rattle.std.proofs.Common.{◌≤◌, ℕ, reverse, length}
use denote.Param.Weighed.{most}
use Rattle.rc_tree.proofs.FuelLemmas.{SoFar}
use Rattle.rc_tree.specs.Fuel.{in_turn, kept_into}
use Rattle.rc_tree.specs.Rewrite.Values.{instruction_at, rows_at, value_to}
use Rattle.rc_tree.proofs.value.ReactiveInstruction.TheLaws.{the_size}
use Rattle.rc_walk.proofs.rewrite.value.+rewrite_value.Given as goal

abbrev pub invariant-walk_rows-loop-row : goal.invariant-walk_rows-loop-row
invariant-walk_rows-loop-row g l =
    let steps = g.T.ReactiveFunctionTransform.steps in
    let functions = g.T.ReactiveFunctionTransform.functions in
    record {
      no_deeper : most the_size l.left ≤ most the_size l.fn.rows;
      so_far : (n : ℕ) → SoFar (kept_into (instruction_at steps functions (value_to steps functions n)))
          (rows_at steps functions (value_to steps functions n) (l.initial.transform, l.initial.state) l.fn.rows)
          (in_turn (kept_into (instruction_at steps functions (value_to steps functions n))) (l.transform, l.state)
          l.rows (reverse l.left));
    }

abbrev pub decreases-walk_rows-loop-row : goal.decreases-walk_rows-loop-row
decreases-walk_rows-loop-row g l = length l.left
