use Rattle.rc_flow.proofs.ReactiveDependencies.PrunedLemmas.{IsDone}
use Rattle.rc_flow.proofs.reactive_dependencies.pruned_scopes.Given as goal

-- the scopes pruned so far, one a number, and those still to come are the whole table
abbrev pub invariant-loop-scope : goal.invariant-loop-scope
invariant-loop-scope l = IsDone l.spread l.scope-items l.scopes l.scope-index
