use Rattle.std.proofs.Common.{◌≡◌, drop}
use Rattle.rc_tree.specs.Step.{each}
use Rattle.rc_checks.specs.BreakTargets.{met_in}
use Rattle.rc_checks.specs.inside.MetStatements.{met_at}
use Rattle.rc_checks.specs.inside.TargetSteps.{terminal_step}
use Rattle.rc_checks.proofs.break_targets.+check_targets.Given as goal

-- the steps of the statements that are left are those of the block
abbrev pub invariant-check_block-loop-statement : goal.invariant-check_block-loop-statement
invariant-check_block-loop-statement l =
    each terminal_step (met_in l.block) l.initial.labels
    ≡ each (λ x. each terminal_step (met_at x)) (drop l.statement-index l.statement-items) l.labels
