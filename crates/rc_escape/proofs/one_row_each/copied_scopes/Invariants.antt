use Rattle.std.proofs.Common.{◌≡◌, take}
use Rattle.rc_escape.proofs.one_row_each.copied_scopes.Given as goal

abbrev pub invariant-loop-place : goal.invariant-loop-place
invariant-loop-place l = l.copy ≡ take l.place l.scopes
