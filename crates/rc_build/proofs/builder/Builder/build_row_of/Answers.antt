use Rattle.std.proofs.Common.{sym, ◌∙◌, subst}
use Rattle.rc_build.specs.inside.Built.{BuildsTask}
use Rattle.rc_build.specs.inside.CanBuild.{CanBuildTerminal}
use Rattle.rc_build.specs.inside.Task.{FromTerminal, left}
use Rattle.rc_build.proofs.StepLemmas.{terminal_same}
use Rattle.rc_build.proofs.builder.Builder.build_row_of.Goals as goal

pub build_value_statement-requires : goal.build_value_statement-requires
build_value_statement-requires c =
    let old = c.args.self.now in
    subst (CanBuildTerminal old.hir.now old.marks c.args.site.handler old.frames c.args.site.block)
    (terminal_same c.args.terminal.now c.unwrap.result (sym c.value_terminal.ensures ∙ c.unwrap.ensures)) c.requires.0

pub returns : goal.returns
returns c = subst (λ z. BuildsTask c.args.self.now c.build_value_statement.new.self c.args.site (FromTerminal z) left
    c.build_value_statement.result)
    (sym (terminal_same c.args.terminal.now c.unwrap.result (sym c.value_terminal.ensures ∙ c.unwrap.ensures)))
    c.build_value_statement.ensures
