use Rattle.std.proofs.Common.{◌≡◌, take}
use Rattle.rc_why.specs.inside.ToldFacts.{caused_scopes}
use Rattle.rc_why.proofs.reasons.lookups.scopes_caused.Given as goal

abbrev pub invariant-loop-cause : goal.invariant-loop-cause
invariant-loop-cause l = l.scopes ≡ caused_scopes (take l.cause-index l.causes)
