use Rattle.std.proofs.Common.{drop}
use Rattle.rc_slots.specs.Slots.{entries_from}
use Rattle.rc_slots.proofs.NumberingLemmas.{IsBegun}
use Rattle.rc_slots.proofs.numbering.number_slots.Given as goal

-- the lengths that are left give the rest of the plan
abbrev pub invariant-loop-lengths : goal.invariant-loop-lengths
invariant-loop-lengths l = IsBegun (entries_from 0 l.all) l.plan (drop l.lengths-index l.all)
