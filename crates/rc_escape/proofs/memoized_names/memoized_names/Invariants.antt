use Rattle.rc_escape.proofs.MemoSetLemmas.{HasMemoizedBefore}
use Rattle.rc_escape.proofs.memoized_names.memoized_names.Given as goal

abbrev pub invariant-loop-place : goal.invariant-loop-place
invariant-loop-place l = HasMemoizedBefore l.rows l.state l.place l.set
