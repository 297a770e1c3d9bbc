use Rattle.std.proofs.Common.{◌∙◌}
use Rattle.rc_flow.proofs.ReactiveDependencies.PrunedLemmas.{next_done}
use Rattle.rc_flow.proofs.reactive_dependencies.pruned_scopes.Goals as goal

pub loop-scope-preserved : goal.loop-scope-preserved
loop-scope-preserved c =
    next_done c.args.spread.now c.as_slice-scope-items.result.now c.loop-scope.scopes c.push.new.self
    c.loop-scope.scope-index c.scope-item.result c.in_ok-pruned.pruned c.new-id.result
    c.in_ok-dependencies.dependencies c.loop-scope-test.true c.scope-item.is
    (c.new-id.ensures ∙ c.len.ensures.value) c.in_ok-dependencies.ensures c.in_ok-pruned.ensures
    c.in_ok-push.ensures.ok c.loop-scope.invariant
