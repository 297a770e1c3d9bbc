use Rattle.std.proofs.Common.{sym, ap}
use Rattle.rc_hir.specs.declared.fault.Rule.TheVariants as rules
use Rattle.rc_hir.specs.declared.terminal.GotoVariant.TheVariants as variants
use Rattle.rc_hir.specs.declared.terminal.Terminal.TheVariants as terminals
use Rattle.rc_runs.specs.PlainTree.{Continue}
use Rattle.rc_runs.specs.SimpleStatements.{continue_statements, unlabeled}
use Rattle.rc_runs.specs.Grammar.{continues}
use Rattle.rc_build.specs.inside.Setting.{setting_of}
use Rattle.rc_build.proofs.BuildsLemmas.{breaks_rule}
use Rattle.rc_build.proofs.JumpLemmas.{builds_end, continue_at, continue_refused}
use Rattle.rc_build.proofs.builder.Builder.build_continue.Goals as goal

pub returns-in-NoLoop : goal.returns-in-NoLoop
returns-in-NoLoop c = λ span.
    breaks_rule c.args.site.block rules.ContinueTarget c.malformed.ensures
    (continue_refused {s = setting_of c.args.self.now c.args.site} c.args.self.now.marks.used
    (ap (λ z. continue_statements z c.args.id) (sym c.in-NoLoop.ensures))) (continue_at c.requires.1)

pub returns-in_ok-put_terminal-in-Continues : goal.returns-in_ok-put_terminal-in-Continues
returns-in_ok-put_terminal-in-Continues c = λ span.
    let asked = ap (λ z. continue_statements z c.args.id) (sym c.in-Continues.ensures) in
    builds_end (terminals.Goto c.args.target variants.Continue c.args.id span)
    (unlabeled (Continue c.in-Continues.target c.in-Continues.kind c.args.id)) c.requires.1.marked
    c.in_ok-put_terminal-in-Continues.ensures (continues asked)
