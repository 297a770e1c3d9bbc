use Rattle.std.proofs.Common.{◌≡◌, ◌≤◌, ◌-◌, [], length, replicate}
use Rattle.rc_escape.proofs.row_users.empty_lists.Given as goal

abbrev pub invariant-loop-alloc : goal.invariant-loop-alloc
invariant-loop-alloc l = record {
  made : l.lists ≡ replicate (length l.lists) [];
  bound : length l.lists ≤ l.n;
}

abbrev pub decreases-loop-alloc : goal.decreases-loop-alloc
decreases-loop-alloc l = l.n - length l.lists
