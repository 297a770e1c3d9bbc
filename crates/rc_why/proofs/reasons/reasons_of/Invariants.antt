use Rattle.std.proofs.Common.{take}
use Rattle.rc_why.proofs.ReasonLemmas.{AreReasonsSoFar}
use Rattle.rc_why.proofs.reasons.reasons_of.Given as goal

abbrev pub invariant-loop-entry : goal.invariant-loop-entry
invariant-loop-entry l = AreReasonsSoFar l.env l.told (take l.entry-index l.fates) l.reasons
