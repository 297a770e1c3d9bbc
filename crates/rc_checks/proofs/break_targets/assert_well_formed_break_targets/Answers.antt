use Rattle.rc_checks.proofs.BreakTargets.CheckLemmas.{answers_ok, answers_bad_target, answers_only}
use Rattle.rc_checks.proofs.BreakTargets.NoJumpIsMet.{only_memory}
use Rattle.rc_checks.specs.BreakTargets.{met_in}
use Rattle.rc_checks.proofs.break_targets.assert_well_formed_break_targets.Goals as goal

pub returns-clause-ok : goal.returns-clause-ok
returns-clause-ok c = answers_ok (met_in c.args.func.now.body) c.check_block.result c.check_block.new.labels
    (rw c.new-labels.ensures at c.check_block.ensures)

pub returns-clause-bad_target : goal.returns-clause-bad_target
returns-clause-bad_target c = answers_bad_target (met_in c.args.func.now.body) c.check_block.result
    c.check_block.new.labels (rw c.new-labels.ensures at c.check_block.ensures)

pub returns-clause-only : goal.returns-clause-only
returns-clause-only c = answers_only (met_in c.args.func.now.body) c.check_block.result c.check_block.new.labels
    (rw c.new-labels.ensures at c.check_block.ensures)

pub returns-clause-spelled : goal.returns-clause-spelled
returns-clause-spelled c = λ hir.
    only_memory hir c.args.env.now c.args.func.now c.check_block.result (returns-clause-bad_target c)
    (returns-clause-only c)
