use Rattle.std.proofs.Common.{take}
use Rattle.rc_why.specs.inside.ToldFacts.{HasNames}
use Rattle.rc_why.proofs.reasons.lookups.names_in.Given as goal

abbrev pub invariant-loop-name : goal.invariant-loop-name
invariant-loop-name l = HasNames (take l.name-index l.names) l.set
