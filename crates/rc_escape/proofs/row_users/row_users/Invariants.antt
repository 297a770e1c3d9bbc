use Rattle.rc_escape.proofs.UsersLemmas.{AreUsersBefore}
use Rattle.rc_escape.proofs.row_users.row_users.Given as goal

abbrev pub invariant-loop-row : goal.invariant-loop-row
invariant-loop-row l = AreUsersBefore l.rows l.row l.users
