use Rattle.std.proofs.Common.{Option, sym, subst}
use Rattle.rc_names.specs.declared.span.Span.{Span}
use Rattle.rc_hir.specs.declared.terminal.Terminal.TheVariants as terminals
use Rattle.rc_build.specs.inside.CanBuild.{CanBuildTerminal}
use Rattle.rc_build.specs.inside.Task.{FromTerminal, left}
use Rattle.rc_build.specs.inside.Built.{BuildsTask}
use Rattle.rc_build.proofs.ThrowLemmas.{leave_builds}
use Rattle.rc_build.proofs.builder.Builder.build_goto.Goals as goal

pub returns-in-Break : goal.returns-in-Break
returns-in-Break c = subst (λ v. (span : Option Span) → BuildsTask c.args.self.now c.build_break.new.self c.args.site
    (FromTerminal (terminals.Goto c.args.target v c.args.id span)) left c.build_break.result) (sym c.in-Break.is)
    c.build_break.ensures

pub returns-in-Continue : goal.returns-in-Continue
returns-in-Continue c = subst (λ v. (span : Option Span) → BuildsTask c.args.self.now c.build_continue.new.self
    c.args.site (FromTerminal (terminals.Goto c.args.target v c.args.id span)) left c.build_continue.result)
    (sym c.in-Continue.is) c.build_continue.ensures

pub returns-in-Try : goal.returns-in-Try
returns-in-Try c =
    let old = c.args.self.now in
    subst (λ v. (span : Option Span) → BuildsTask old old c.args.site
    (FromTerminal (terminals.Goto c.args.target v c.args.id span)) left c.leave_try.result) (sym c.in-Try.is)
    (λ span. leave_builds {old = old} {site = c.args.site} c.leave_try.result
    (subst (λ v. CanBuildTerminal old.hir.now old.marks c.args.site.handler old.frames c.args.site.block
    (terminals.Goto c.args.target v c.args.id c.requires.0)) c.in-Try.is c.requires.1)
    c.leave_try.ensures.left c.leave_try.ensures.refused)
