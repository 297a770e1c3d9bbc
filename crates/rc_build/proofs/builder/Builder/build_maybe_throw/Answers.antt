use Rattle.std.proofs.Common.{sym, ◌∙◌}
use Rattle.rc_hir.specs.declared.fault.Rule.TheVariants as rules
use Rattle.rc_build.specs.inside.Setting.{setting_of}
use Rattle.rc_build.proofs.BuildsLemmas.{breaks_rule}
use Rattle.rc_build.proofs.ThrowLemmas.{handler_at, other_handler, throw_ends, throw_goes_on}
use Rattle.rc_build.proofs.builder.Builder.build_maybe_throw.Goals as goal

pub returns-then-not-is_current : goal.returns-then-not-is_current
returns-then-not-is_current c = λ id span.
    let other = sym c.is_current.ensures ∙ c.if-not-is_current.true in
    breaks_rule c.args.site.block rules.Handler c.malformed.ensures
    (other_handler {s = setting_of c.args.self.now c.args.site} c.args.self.now.marks.used other)
    (handler_at c.requires.2 other)

pub returns-then-is_next : goal.returns-then-is_next
returns-then-is_next c = λ id span.
    throw_ends {old = c.args.self.now} {site = c.args.site} c.requires.2
    (sym c.is_current.ensures ∙ c.if-not-is_current.false)
    (sym c.is_next.ensures ∙ c.if-is_next.true)

pub returns-else-is_next : goal.returns-else-is_next
returns-else-is_next c = λ id span.
    throw_goes_on {old = c.args.self.now} {site = c.args.site} c.requires.2
    (sym c.is_current.ensures ∙ c.if-not-is_current.false)
    (sym c.is_next.ensures ∙ c.if-is_next.false)
