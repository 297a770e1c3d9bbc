use Rattle.std.proofs.Common.{◌≡◌, ◌++◌, false, map, drop, nat_lt}
use Rattle.rc_lines.specs.ValueLines.{row_text, joined}
use Rattle.rc_lines.proofs.value.+value.Given as goal

-- the rows so far and those that are left are the whole
abbrev pub invariant-write_joined-loop-i : goal.invariant-write_joined-loop-i
invariant-write_joined-loop-i l =
    l.page ++ joined (nat_lt 0 l.i) (map row_text (drop l.i l.rows)) ≡ l.fn.page ++ joined false (map row_text l.rows)
