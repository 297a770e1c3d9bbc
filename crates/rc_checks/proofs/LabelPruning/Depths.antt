-- Why label pruning ends: what a call prunes is no deeper than what it was called for.
use Rattle.std.proofs.Common.{◌≡◌, suc, arith}
use Rattle.rc_names.specs.Numbers.{EvaluationOrder}
use Rattle.rc_tree.specs.declared.statement.ReactiveBlock.{ReactiveBlock, size-ReactiveBlock}
use Rattle.rc_tree.specs.declared.terminal.ReactiveTerminal.{size-ReactiveTerminal, size_is-ReactiveTerminal}
use Rattle.rc_tree.specs.declared.terminal.ReactiveTerminal.TheVariants as tree

pub size_label : (body : ReactiveBlock) (id : EvaluationOrder)
    → size-ReactiveTerminal (tree.Label body id) ≡ suc (size-ReactiveBlock body)
size_label body id = rw (size_is-ReactiveTerminal (tree.Label body id), tree.outs-Label body id) (omega arith)
