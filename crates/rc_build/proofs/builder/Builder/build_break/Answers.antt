use Rattle.std.proofs.Common.{None, refl}
use Rattle.rc_hir.specs.declared.terminal.GotoVariant.TheVariants as variants
use Rattle.rc_hir.specs.declared.terminal.Terminal.TheVariants as terminals
use Rattle.rc_build.specs.inside.Setting.{setting_of}
use Rattle.rc_build.proofs.BuildsLemmas.{is_built, passes_on}
use Rattle.rc_build.proofs.JumpLemmas.{break_built, break_refused, goto_can}
use Rattle.rc_build.proofs.builder.Builder.build_break.Goals as goal

pub put_break-requires : goal.put_break-requires
put_break-requires c = (terminals.Goto c.args.target variants.Break c.args.id c.requires.0, goto_can c.requires.1)

pub returns-in_err-put_break : goal.returns-in_err-put_break
returns-in_err-put_break c = λ span.
    passes_on c.from_residual.ensures.1 refl c.in_err-put_break.ensures
    (break_refused {s = setting_of c.args.self.now c.args.site} c.args.self.now.marks.used)

pub returns : goal.returns
returns c = λ span.
    is_built None (break_built c.args.site c.requires.1.marked c.in_ok-put_break.ensures.ok)
    c.in_ok-put_break.ensures.frames
