use Rattle.std.proofs.Common.{◌≡◌, ◌++◌, drop, length, reverse, take}
use Rattle.rc_walk.proofs.statements.take_off.Given as goal

-- the statements that are left to take off are those from the start on
abbrev pub invariant-loop-all : goal.invariant-loop-all
invariant-loop-all l = record {
  before : take l.start l.all ≡ take l.start l.fn.all;
  taken : l.taken ++ reverse (drop l.start l.all) ≡ l.fn.taken ++ reverse (drop l.start l.fn.all);
  parts : l.fn.all ≡ l.all ++ drop (length l.all) l.fn.all;
  moved : l.taken ≡ l.fn.taken ++ reverse (drop (length l.all) l.fn.all);
}

abbrev pub decreases-loop-all : goal.decreases-loop-all
decreases-loop-all l = length l.all
