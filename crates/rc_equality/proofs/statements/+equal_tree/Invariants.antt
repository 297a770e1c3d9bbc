use Rattle.std.proofs.Common.{◌≡◌, take}
use Rattle.rc_equality.proofs.statements.+equal_tree.Given as goal

abbrev pub invariant-ReactiveBlockEquals::equals-loop-i : goal.invariant-ReactiveBlockEquals::equals-loop-i
invariant-ReactiveBlockEquals::equals-loop-i l = take l.i l.statement-items ≡ take l.i l.others

abbrev pub invariant-are_equal_cases-loop-i : goal.invariant-are_equal_cases-loop-i
invariant-are_equal_cases-loop-i l = take l.i l.case-items ≡ take l.i l.others
