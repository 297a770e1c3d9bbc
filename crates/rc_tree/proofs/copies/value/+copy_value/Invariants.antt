use Rattle.std.proofs.Common.{◌≡◌, take}
use Rattle.rc_tree.proofs.copies.value.+copy_value.Given as goal

abbrev pub invariant-copied_rows-loop-row : goal.invariant-copied_rows-loop-row
invariant-copied_rows-loop-row l = l.copies ≡ take l.row-index l.row-items
