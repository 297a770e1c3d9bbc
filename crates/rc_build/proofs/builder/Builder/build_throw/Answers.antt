use Rattle.std.proofs.Common.{sym, ◌∙◌}
use Rattle.rc_hir.specs.declared.fault.Rule.TheVariants as rules
use Rattle.rc_hir.specs.declared.terminal.Terminal.TheVariants as terminals
use Rattle.rc_runs.specs.PlainTree.{Throw}
use Rattle.rc_runs.specs.SimpleStatements.{unlabeled}
use Rattle.rc_runs.specs.Grammar as grammar
use Rattle.rc_build.specs.inside.Setting.{setting_of}
use Rattle.rc_build.proofs.BuildsLemmas.{breaks_rule}
use Rattle.rc_build.proofs.JumpLemmas.{builds_end}
use Rattle.rc_build.proofs.ThrowLemmas.{no_handler, throw_refused, throws_at}
use Rattle.rc_build.proofs.builder.Builder.build_throw.Goals as goal

pub returns-then-is_some : goal.returns-then-is_some
returns-then-is_some c = λ span.
    let some = sym c.is_some.ensures ∙ c.if-is_some.true in
    breaks_rule c.args.site.block rules.ThrowInTry c.malformed.ensures
    (throw_refused {s = setting_of c.args.self.now c.args.site} c.args.self.now.marks.used some)
    (throws_at c.requires.1 some)

pub returns : goal.returns
returns c = λ span. builds_end (terminals.Throw c.args.value.now c.args.id span)
    (unlabeled (Throw c.args.value.now c.args.id)) c.requires.1.marked
    c.in_ok-put_terminal.ensures
    (grammar.throws (no_handler c.args.site.handler (sym c.is_some.ensures ∙ c.if-is_some.false)))
