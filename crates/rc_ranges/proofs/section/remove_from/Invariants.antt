use Rattle.std.proofs.Common.{◌≡◌}
use Rattle.rc_ranges.proofs.JoinedLemmas.{done}
use Rattle.rc_ranges.proofs.section.remove_from.Given as goal

abbrev pub invariant-loop-i : goal.invariant-loop-i
invariant-loop-i l = l.groups ≡ done l.id l.i l.fn.groups
