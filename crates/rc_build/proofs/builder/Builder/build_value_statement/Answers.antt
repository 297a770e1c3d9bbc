use Rattle.std.proofs.Common.{[], ◌∷◌, ◌++◌, None, false, refl, sym, ap, ◌∙◌, subst}
use Rattle.rc_hir.specs.declared.fault.Rule.TheVariants.{FallsElsewhere}
use Rattle.rc_runs.specs.ShortArms.{SpellsShortArm}
use Rattle.rc_build.specs.declared.value_terminals.NestedValue.{NestedValue}
use Rattle.rc_build.specs.inside.Built.{Refused}
use Rattle.rc_build.specs.inside.Setting.{Setting, setting_of}
use Rattle.rc_build.specs.inside.Task.{progress_of}
use Rattle.rc_build.specs.inside.ShortArms.{CanBuildShort, ShortBuilt, alternate_of}
use Rattle.rc_build.proofs.BuildsLemmas.{breaks_rule, is_built, passes_on, same_graph}
use Rattle.rc_build.proofs.ValueStatementLemmas.{falls_fact, nested_can, nested_short_can, value_elsewhere}
use Rattle.rc_build.proofs.ValueStatementLemmas.{value_prefix, value_refused, value_refused_arm}
use Rattle.rc_build.proofs.builder.Builder.build_value_statement.Goals as goal

pub build_nested-requires : goal.build_nested-requires
build_nested-requires c = nested_can c.args.terminal c.requires

pub returns-then-not-falls_to : goal.returns-then-not-falls_to
returns-then-not-falls_to c =
    let old = c.args.self.now in
    let opened = c.open-opened.ensures in
    let shut = sym c.falls_to.ensures ∙ c.if-not-falls_to.true in
    breaks_rule c.args.site.block FallsElsewhere c.malformed.ensures
    (value_elsewhere (setting_of old c.args.site) c.args.terminal old.marks.used opened shut)
    (falls_fact c.args.terminal c.requires c.args.site.next opened shut)

pub returns-in_err-nested : goal.returns-in_err-nested
returns-in_err-nested c =
    let old = c.args.self.now in
    passes_on c.from_residual.ensures.1 refl (c.in_err-nested.ensures c.args.site)
    (value_refused (setting_of old c.args.site) c.args.terminal old.marks.used)

pub build_short_arm-requires : goal.build_short_arm-requires
build_short_arm-requires c =
    let mid = c.build_nested.new.self in
    let nested = c.in_ok-nested.ensures c.args.site in
    subst (λ (z : NestedValue). CanBuildShort mid.hir.now mid.marks z.short) (sym c.get.ensures)
    (subst (λ (z : Setting). CanBuildShort z.hir mid.marks c.in_ok-nested.nested.short) (sym nested.frames)
    (nested_short_can c.args.terminal c.requires refl nested.ok))

pub returns-in_err-build_short_arm : goal.returns-in_err-build_short_arm
returns-in_err-build_short_arm c =
    let old = c.args.self.now in
    let mid = c.build_nested.new.self in
    let nested = c.in_ok-nested.ensures c.args.site in
    passes_on c.from_residual-in_err-build_short_arm.ensures.1 (same_graph nested.frames)
    (c.in_err-build_short_arm.ensures c.args.site)
    (λ none. value_refused_arm (setting_of old c.args.site) c.args.terminal nested.ok
    (subst (λ (z : Setting). Refused z.hir
    (SpellsShortArm z.hir z.env c.args.site.handler c.args.terminal.fallthrough false
    (alternate_of c.in_ok-nested.nested.short) None) mid.marks.used) nested.frames
    (subst (λ (z : NestedValue). Refused mid.hir.now (SpellsShortArm mid.hir.now mid.env.now c.args.site.handler
    c.args.terminal.fallthrough false (alternate_of z.short) None) mid.marks.used) c.get.ensures none)))

pub returns : goal.returns
returns c =
    let old = c.args.self.now in
    let mid = c.build_nested.new.self in
    let late = c.build_short_arm.new.self in
    let nested = c.in_ok-nested.ensures c.args.site in
    let short = c.in_ok-build_short_arm.ensures c.args.site in
    let arm = subst (λ (z : NestedValue). ShortBuilt mid.hir.now mid.env.now c.args.site.handler
    c.args.terminal.fallthrough false z.short None c.in_ok-build_short_arm.field-0 (progress_of mid) (progress_of late))
    c.get.ensures short.ok in
    is_built c.open-opened.result
    (value_prefix (setting_of old c.args.site) c.args.terminal nested.ok c.open-opened.ensures
    (sym c.falls_to.ensures ∙ c.if-not-falls_to.false)
    (subst (λ (z : Setting). ShortBuilt z.hir z.env c.args.site.handler c.args.terminal.fallthrough false
    c.in_ok-nested.nested.short None
    c.in_ok-build_short_arm.field-0 (progress_of mid) (progress_of late)) nested.frames arm)
    (c.in_ok-push.ensures.ok ∙ ap (λ z. late.out ++ z ∷ []) c.value_statement.ensures))
    (short.frames ∙ nested.frames)
