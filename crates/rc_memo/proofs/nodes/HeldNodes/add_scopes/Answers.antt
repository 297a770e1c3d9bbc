use Rattle.std.proofs.Common.{[], ◌∷◌}
use Rattle.rc_memo.proofs.RowNodesLemmas.{facts_next, facts_nothing}
use Rattle.rc_memo.proofs.StepsLemmas.{part_more}
use Rattle.rc_memo.specs.Facts.{HasScope}
use Rattle.rc_memo.specs.inside.RowNodes.{AddsFacts}
use Rattle.rc_memo.proofs.nodes.HeldNodes.add_scopes.Goals as goal

pub loop-scope-init : goal.loop-scope-init
loop-scope-init c = facts_nothing c.args.self.now

pub loop-scope-preserved : goal.loop-scope-preserved
loop-scope-preserved c =
    part_more AddsFacts facts_next (λ scope. HasScope c.args.name scope ∷ []) c.as_slice-scope-items.result.now
    c.loop-scope.scope-index _ c.args.self.now c.loop-scope.self c.add_scope.new.self c.loop-scope-test.true
    c.loop-scope.invariant c.in_ok-add_scope.ensures
