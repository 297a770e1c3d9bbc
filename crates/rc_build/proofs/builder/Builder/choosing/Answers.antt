use Rattle.std.proofs.Common.{◌≡◌, None, Some, sym, ap, ◌∙◌, subst}
use Rattle.rc_hir.specs.declared.fault.Rule.TheVariants as rules
use Rattle.rc_build.specs.declared.values.BuiltValue.{BuiltValue}
use Rattle.rc_runs.specs.AnsweredTest.{same_declaration}
use Rattle.rc_build.specs.inside.Values.{IsChoice, arms_of}
use Rattle.rc_build.proofs.BuildsLemmas.{boxed_built, breaks_rule}
use Rattle.rc_build.proofs.ValueEndLemmas.{arms_as, arms_none, arms_unlike, declared_in, end_elsewhere, ends_as}
use Rattle.rc_build.proofs.ValueEndLemmas.{ends_not, tested_fact}
use Rattle.rc_build.proofs.builder.Builder.choosing.Goals as goal

pub returns-in_default : goal.returns-in_default
returns-in_default c = λ old site key context built.
    let none = subst (λ (z : BuiltValue). arms_of z.last.now ≡ None) c.get.ensures
    (sym c.arms_of.ensures ∙ c.in_default.is) in
    breaks_rule _ rules.ValueEnd c.refuse.ensures
    (ends_not built.ok (IsChoice old.env.now) old.marks.used (arms_none built.ok none)) (end_elsewhere built.ok)

pub returns-then-not-same_declaration : goal.returns-then-not-same_declaration
returns-then-not-same_declaration c = λ old site key context built.
    let found = subst (λ (z : BuiltValue). arms_of z.last.now ≡ Some c.in-Some.arms) c.get.ensures
    (sym c.arms_of.ensures ∙ c.in-Some.is) in
    breaks_rule _ rules.Tested c.refuse-then-not-same_declaration.ensures
    (ends_not built.ok (IsChoice old.env.now) old.marks.used
    (arms_unlike built.ok found (declared_in c.in-Some.arms.test c.args.tested.answer built.frames
    (ap (λ (z : BuiltValue). same_declaration c.args.self.now.env.now c.in-Some.arms.test z.answer) (sym c.get-2.ensures)
    ∙ sym c.same_declaration.ensures ∙ c.if-not-same_declaration.true)))) (tested_fact built.ok found)

pub returns : goal.returns
returns c = λ old site key context built.
    let found = subst (λ (z : BuiltValue). arms_of z.last.now ≡ Some c.in-Some.arms) c.get.ensures
    (sym c.arms_of.ensures ∙ c.in-Some.is) in
    let alike = declared_in c.in-Some.arms.test c.args.tested.answer built.frames
    (ap (λ (z : BuiltValue). same_declaration c.args.self.now.env.now c.in-Some.arms.test z.answer) (sym c.get-2.ensures)
    ∙ sym c.same_declaration.ensures ∙ c.if-not-same_declaration.false) in
    boxed_built c.in_ok-new.ensures (ends_as built.ok (arms_as built.ok found alike)) built.frames
