use Rattle.rc_hir.specs.declared.terminal.Terminal.TheVariants as terminals
use Rattle.rc_runs.specs.PlainTree.{Return}
use Rattle.rc_runs.specs.SimpleStatements.{unlabeled}
use Rattle.rc_runs.specs.Grammar as grammar
use Rattle.rc_build.proofs.JumpLemmas.{builds_end}
use Rattle.rc_build.proofs.builder.Builder.build_return.Goals as goal

pub returns : goal.returns
returns c = λ span. builds_end (terminals.Return c.args.value.now c.args.id span)
    (unlabeled (Return c.args.value.now c.args.id)) c.requires.1.marked
    c.in_ok-put_terminal.ensures
    grammar.returns
