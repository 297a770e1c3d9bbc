-- The statements that are left are no deeper than all, and their walk from here is the walk of all.
use Rattle.std.proofs.Common.{◌≡◌, ◌≤◌, ℕ, [], reverse, length, take, drop}
use denote.Param.Weighed.{most}
use Rattle.rc_tree.proofs.FuelLemmas.{SoFar}
use Rattle.rc_tree.specs.Fuel.{in_turn, kept_into}
use Rattle.rc_tree.specs.Rewrite.{block_to, into_at, statements_at}
use Rattle.rc_tree.specs.Rewrite.Terminals.{case_at, cases_at}
use Rattle.rc_tree.proofs.statement.ReactiveStatement.TheLaws as statement
use Rattle.rc_tree.proofs.terminal.ReactiveSwitchCase.TheLaws as switch_case
use Rattle.rc_walk.proofs.rewrite.+rewrite_tree.Given as goal

abbrev pub invariant-statement::walk_list-statement : goal.invariant-statement::walk_list-statement
invariant-statement::walk_list-statement g l =
    let steps = g.T.ReactiveFunctionTransform.steps in
    let functions = g.T.ReactiveFunctionTransform.functions in
    record {
      no_deeper : most statement.the_size l.left ≤ most statement.the_size l.fn.statements;
      so_far : (n : ℕ) → SoFar (into_at steps functions (block_to steps functions n))
          (statements_at steps functions (block_to steps functions n) (l.fn.transform, l.fn.state) l.fn.statements)
          (in_turn (into_at steps functions (block_to steps functions n)) (l.transform, l.state) l.statements
          (reverse l.left));
    }

abbrev pub decreases-statement::walk_list-statement : goal.decreases-statement::walk_list-statement
decreases-statement::walk_list-statement g l = length l.left

abbrev pub invariant-statement::walk_front-loop-i : goal.invariant-statement::walk_front-loop-i
invariant-statement::walk_front-loop-i g l =
    let steps = g.T.ReactiveFunctionTransform.steps in
    let functions = g.T.ReactiveFunctionTransform.functions in
    record {
      as_long : length l.statements ≡ length l.fn.statements;
      behind : drop l.i l.statements ≡ drop l.i l.fn.statements;
      none_done : l.done ≡ [];
      so_far : (n : ℕ) → SoFar (into_at steps functions (block_to steps functions n))
          (statements_at steps functions (block_to steps functions n) (l.initial.transform, l.initial.state)
          l.fn.statements)
          (in_turn (into_at steps functions (block_to steps functions n)) (l.transform, l.state)
          (take l.i l.statements) (drop l.i l.statements));
    }

abbrev pub invariant-terminal::walk_cases-loop-i : goal.invariant-terminal::walk_cases-loop-i
invariant-terminal::walk_cases-loop-i g l =
    let steps = g.T.ReactiveFunctionTransform.steps in
    let functions = g.T.ReactiveFunctionTransform.functions in
    record {
      as_long : length l.cases ≡ length l.fn.cases;
      no_deeper : most switch_case.the_size (drop l.i l.cases) ≤ most switch_case.the_size l.fn.cases;
      so_far : (n : ℕ) → SoFar (kept_into (case_at steps functions (block_to steps functions n) l.fn.id))
          (cases_at steps functions (block_to steps functions n) l.fn.id (l.initial.transform, l.initial.state)
          l.fn.cases)
          (in_turn (kept_into (case_at steps functions (block_to steps functions n) l.fn.id)) (l.transform, l.state)
          (take l.i l.cases) (drop l.i l.cases));
    }
