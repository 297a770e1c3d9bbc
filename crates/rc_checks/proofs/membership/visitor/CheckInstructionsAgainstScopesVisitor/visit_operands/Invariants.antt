use Rattle.std.proofs.Common.{◌≡◌, drop}
use Rattle.rc_tree.specs.Step.{each}
use Rattle.rc_checks.specs.inside.MembershipSteps.{membership_steps}
use Rattle.rc_checks.proofs.membership.visitor.CheckInstructionsAgainstScopesVisitor.visit_operands.Given as goal

abbrev pub invariant-loop-place : goal.invariant-loop-place
invariant-loop-place l =
    let step = (membership_steps l.self.env.now l.self.blocks.now).visit_place l.id in
    each step l.places l.initial.state ≡ each step (drop l.place-index l.places) l.state
