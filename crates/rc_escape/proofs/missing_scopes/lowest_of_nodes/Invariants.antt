use Rattle.rc_escape.proofs.LowestScopeLemmas.{IsLowestOfNodesSoFar}
use Rattle.rc_escape.proofs.missing_scopes.lowest_of_nodes.Given as goal

abbrev pub invariant-loop-place : goal.invariant-loop-place
invariant-loop-place l = IsLowestOfNodesSoFar l.rows l.place l.lowest
