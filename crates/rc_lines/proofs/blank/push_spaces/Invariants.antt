-- the spaces so far and those that are left are all
use Rattle.std.proofs.Common.{◌≡◌, ◌++◌, replicate, string_bytes}
use Rattle.rc_lines.proofs.blank.push_spaces.Given as goal

abbrev pub invariant-loop-left : goal.invariant-loop-left
invariant-loop-left l =
    string_bytes l.text ++ replicate l.left 32 ≡ string_bytes l.fn.text ++ replicate l.fn.count 32

abbrev pub decreases-loop-left : goal.decreases-loop-left
decreases-loop-left l = l.left
