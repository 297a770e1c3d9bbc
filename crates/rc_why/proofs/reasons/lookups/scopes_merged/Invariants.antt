use Rattle.std.proofs.Common.{◌≡◌, take}
use Rattle.rc_why.specs.inside.ToldFacts.{merged_scopes}
use Rattle.rc_why.proofs.reasons.lookups.scopes_merged.Given as goal

abbrev pub invariant-loop-told : goal.invariant-loop-told
invariant-loop-told l = l.scopes ≡ merged_scopes (take l.told-index l.merged)
