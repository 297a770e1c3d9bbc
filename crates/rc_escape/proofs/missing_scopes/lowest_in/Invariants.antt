use Rattle.rc_escape.proofs.LowestScopeLemmas.{IsLowestSoFar}
use Rattle.rc_escape.proofs.missing_scopes.lowest_in.Given as goal

abbrev pub invariant-loop-place : goal.invariant-loop-place
invariant-loop-place l = IsLowestSoFar l.rows l.fn.before l.scopes l.place l.lowest
