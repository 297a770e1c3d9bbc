use Rattle.std.proofs.Common.{◌-◌, length}
use Rattle.rc_build.specs.inside.SilentArms.{ArmSoFar}
use Rattle.rc_build.proofs.builder.Builder.build_silent_arm.Given as goal

abbrev pub invariant-chain : goal.invariant-chain
invariant-chain l = ArmSoFar l.fn.self l.self l.fn.handler l.fn.next l.fn.arm l.at

abbrev pub decreases-chain : goal.decreases-chain
decreases-chain l = length l.self.hir.now.body.blocks - length l.self.marks.used
