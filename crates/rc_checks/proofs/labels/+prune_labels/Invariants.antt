-- The parts that are left are no deeper than all, and those put so far with those left make all that are put.
use Rattle.std.proofs.Common.{◌≡◌, ◌≤◌, length, map, reverse}
use denote.Param.Weighed.{most}
use Rattle.rc_checks.proofs.LabelPruning.FrontPruned.{FrontSoFar}
use Rattle.rc_checks.specs.inside.LabelPruning.{put_behind}
use Rattle.rc_checks.specs.Labels.{label_rules}
use Rattle.rc_tree.specs.Rebuilt.{in_order, joined, rebuilt_case, rebuilt_statement}
use Rattle.rc_tree.proofs.statement.ReactiveStatement.TheLaws as statement
use Rattle.rc_tree.proofs.terminal.ReactiveSwitchCase.TheLaws as switch_case
use Rattle.rc_checks.proofs.labels.+prune_labels.Given as goal

abbrev pub invariant-prune_front-loop-i : goal.invariant-prune_front-loop-i
invariant-prune_front-loop-i l = FrontSoFar l.fn.statements l.fn.targets l.i l.statements l.targets l.done

abbrev pub invariant-prune_reversed-loop-left : goal.invariant-prune_reversed-loop-left
invariant-prune_reversed-loop-left l = record {
  no_deeper : most statement.the_size l.left ≤ most statement.the_size l.fn.left;
  put : put_behind l.done (joined (map (rebuilt_statement label_rules) (reverse l.left)) l.targets)
      ≡ put_behind l.fn.done (joined (map (rebuilt_statement label_rules) (reverse l.fn.left)) l.fn.targets);
}

abbrev pub decreases-prune_reversed-loop-left : goal.decreases-prune_reversed-loop-left
decreases-prune_reversed-loop-left l = length l.left

abbrev pub invariant-prune_cases-loop-case : goal.invariant-prune_cases-loop-case
invariant-prune_cases-loop-case l = record {
  no_deeper : most switch_case.the_size l.left ≤ most switch_case.the_size l.fn.cases;
  put : put_behind l.cases (in_order (map (rebuilt_case label_rules) (reverse l.left)) l.targets)
      ≡ in_order (map (rebuilt_case label_rules) l.fn.cases) l.fn.targets;
}

abbrev pub decreases-prune_cases-loop-case : goal.decreases-prune_cases-loop-case
decreases-prune_cases-loop-case l = length l.left
