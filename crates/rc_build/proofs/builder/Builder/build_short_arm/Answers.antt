use Rattle.std.proofs.Common.{Some, refl}
use Rattle.rc_build.proofs.BuildsLemmas.{is_built, passes_on}
use Rattle.rc_build.proofs.ShortArmLemmas.{short_absent, short_arm_can, short_built, short_left, short_refused}
use Rattle.rc_build.proofs.builder.Builder.build_short_arm.Goals as goal

pub returns-in_default : goal.returns-in_default
returns-in_default c = λ site. is_built c.args.behind (short_absent c.in_default.is c.requires) refl

pub returns-then-answers : goal.returns-then-answers
returns-then-answers c = λ site. is_built (Some c.in-Some.arm) (short_left c.in-Some.is c.if-answers.true c.requires) refl

pub build_silent_arm-requires : goal.build_silent_arm-requires
build_silent_arm-requires c = short_arm_can c.in-Some.is c.requires

pub returns-in_err-build_silent_arm : goal.returns-in_err-build_silent_arm
returns-in_err-build_silent_arm c = λ site.
    passes_on c.from_residual.ensures.1 refl (c.in_err-build_silent_arm.ensures site)
    (short_refused c.args.short c.args.behind c.in-Some.is c.args.self.now.marks.used c.if-answers.false)

pub returns : goal.returns
returns c = λ site.
    let arm = c.in_ok-build_silent_arm.ensures site in
    is_built c.args.behind (short_built c.in-Some.is c.if-answers.false arm.ok) arm.frames
