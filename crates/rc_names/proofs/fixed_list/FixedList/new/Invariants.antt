use Rattle.std.proofs.Common.{◌≡◌, ◌≤◌, ◌-◌, length, replicate}
use Rattle.rc_names.proofs.fixed_list.FixedList.new.Given as goal

abbrev pub invariant-loop-value : goal.invariant-loop-value
invariant-loop-value g l = record {
  made : l.items.items ≡ replicate (length l.items.items) l.value;
  bound : length l.items.items ≤ l.n;
}

abbrev pub decreases-loop-value : goal.decreases-loop-value
decreases-loop-value g l = l.n - length l.items.items
