use Rattle.std.proofs.Common.{refl, subst}
use Rattle.rc_build.specs.declared.values.Around.{Around}
use Rattle.rc_build.specs.inside.Task.{progress_of}
use Rattle.rc_build.proofs.BuildsLemmas.{is_built, passes_on}
use Rattle.rc_build.specs.inside.TestParts.{ArmBuilt, HasNoArm}
use Rattle.rc_build.proofs.ValueEndLemmas.{going_built, going_refused, opened_built}
use Rattle.rc_build.proofs.builder.Builder.build_going.Goals as goal

pub returns-in_err-built : goal.returns-in_err-built
returns-in_err-built c =
    let old = c.args.self.now in
    passes_on c.from_residual.ensures.1 refl (c.in_err-built.ensures c.args.site)
    (λ none. going_refused old.marks.used
    (subst (λ (z : Around). HasNoArm old.hir.now old.env.now c.args.key c.args.next z.span z.handler old.marks.used)
    c.around.ensures none))

pub returns : goal.returns
returns c =
    let old = c.args.self.now in
    let built = c.in_ok-built.ensures c.args.site in
    let arm = subst (λ (z : Around). ArmBuilt old.hir.now old.env.now c.args.key c.args.next z.span z.handler
    c.in_ok-built.built (progress_of old) (progress_of c.build_arm.new.self)) c.around.ensures built.ok in
    is_built _ (going_built arm (c.in_ok-shown.ensures _ _ _ (opened_built c.into_inner.ensures arm.is))) built.frames
