use Rattle.std.proofs.Common.{sym, ap, ◌∙◌, eq-eqb}
use Rattle.rc_runs.specs.Silent.{is_unset}
use Rattle.rc_build.proofs.UsableLemmas.{unusable_unset}
use Rattle.rc_build.proofs.blocks.block_with_id.Goals as goal

pub returns-then-evaluation_order-eq0-clause-refused : goal.returns-then-evaluation_order-eq0-clause-refused
returns-then-evaluation_order-eq0-clause-refused c =
    unusable_unset c.args.hir.now c.args.key c.in_ok-found.found.block.now c.in_ok-found.ensures.found
    (ap is_unset (sym c.evaluation_order.ensures) ∙ eq-eqb c.evaluation_order.result.0 0 c.if-evaluation_order-eq0.true)
