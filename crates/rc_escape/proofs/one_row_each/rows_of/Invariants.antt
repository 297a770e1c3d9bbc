use Rattle.rc_escape.proofs.OneRowLemmas.{IsOneRowBefore}
use Rattle.rc_escape.proofs.one_row_each.rows_of.Given as goal

abbrev pub invariant-loop-place : goal.invariant-loop-place
invariant-loop-place l = IsOneRowBefore l.rec l.place l.rows
