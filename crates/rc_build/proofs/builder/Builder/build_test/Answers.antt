use Rattle.std.proofs.Common.{refl, sym, ◌∙◌, false, subst}
use Rattle.std.proofs.lemmas.Bool.{and_parts}
use Rattle.rc_names.proofs.NumbersLemmas.{same_id-eq}
use Rattle.rc_hir.specs.declared.fault.Rule.TheVariants as rules
use Rattle.rc_build.specs.declared.values.Around.{Around}
use Rattle.rc_build.specs.declared.values.Condition.{Condition}
use Rattle.rc_build.specs.inside.Task.{progress_of}
use Rattle.rc_build.specs.inside.ValueSteps.{value_at}
use Rattle.rc_build.specs.inside.Values.{HasNoValue, IsChoice}
use Rattle.rc_build.proofs.BuildsLemmas.{breaks_rule, is_built, passes_on}
use Rattle.rc_build.specs.inside.TestParts.{ConditionBuilt}
use Rattle.rc_build.proofs.ValueEndLemmas.{arms_differ, end_elsewhere, opened_built, test_built, test_elsewhere}
use Rattle.rc_build.proofs.ValueEndLemmas.{test_refused_value}
use Rattle.rc_build.proofs.builder.Builder.build_test.Goals as goal

pub returns-in_err-condition : goal.returns-in_err-condition
returns-in_err-condition c =
    let old = c.args.self.now in
    passes_on c.from_residual.ensures.1 refl (c.in_err-condition.ensures c.args.site)
    (λ none. test_refused_value old.marks.used
    (subst (λ z. HasNoValue old.hir.now old.env.now c.args.key (value_at z false) (IsChoice old.env.now) old.marks.used)
    c.around.ensures none))

pub returns-then-not-are : goal.returns-then-not-are
returns-then-not-are c =
    let old = c.args.self.now in
    let built = c.in_ok-condition.ensures c.args.site in
    let around = c.around.result in
    let opened = subst (λ (z : Condition). ConditionBuilt old.hir.now old.env.now c.args.key around.span around.handler
    false z.arms z.tested (progress_of old) (progress_of c.build_condition.new.self)) (sym c.into_inner-tested.ensures)
    built.ok in
    let test = subst (λ (z : Around). ConditionBuilt old.hir.now old.env.now c.args.key z.span z.handler false
    c.into_inner-tested.result.arms c.into_inner-tested.result.tested (progress_of old)
    (progress_of c.build_condition.new.self)) c.around.ensures opened in
    breaks_rule _ rules.ValueEnd c.refuse.ensures
    (test_elsewhere test old.marks.used
    (arms_differ c.into_inner-tested.result.arms c.args.consequent c.args.alternate
    (sym c.are.ensures ∙ c.if-not-are.true))) (end_elsewhere test)

pub returns : goal.returns
returns c =
    let old = c.args.self.now in
    let built = c.in_ok-condition.ensures c.args.site in
    let around = c.around.result in
    let opened = subst (λ (z : Condition). ConditionBuilt old.hir.now old.env.now c.args.key around.span around.handler
    false z.arms z.tested (progress_of old) (progress_of c.build_condition.new.self)) (sym c.into_inner-tested.ensures)
    built.ok in
    let test = subst (λ (z : Around). ConditionBuilt old.hir.now old.env.now c.args.key z.span z.handler false
    c.into_inner-tested.result.arms c.into_inner-tested.result.tested (progress_of old)
    (progress_of c.build_condition.new.self)) c.around.ensures opened in
    let same = and_parts _ _ (sym c.are.ensures ∙ c.if-not-are.false) in
    is_built _ (test_built test (same_id-eq _ _ same.0) (same_id-eq _ _ same.1)
    (c.in_ok-shown.ensures _ _ _ (opened_built c.into_inner.ensures test.is))) built.frames
