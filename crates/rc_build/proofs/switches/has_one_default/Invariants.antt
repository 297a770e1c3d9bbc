use Rattle.std.proofs.Common.{take}
use Rattle.rc_build.proofs.CaseListLemmas.{DefaultsSoFar}
use Rattle.rc_build.proofs.switches.has_one_default.Given as goal

abbrev pub invariant-loop-case : goal.invariant-loop-case
invariant-loop-case l = DefaultsSoFar (take l.case-index l.cases) l.found
