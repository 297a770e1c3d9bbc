use Rattle.std.proofs.Common.{take}
use Rattle.rc_why.specs.inside.Places.{HasPlaces}
use Rattle.rc_why.proofs.reasons.lookups.places_of.Given as goal

abbrev pub invariant-loop-place : goal.invariant-loop-place
invariant-loop-place l = HasPlaces l.scopes (take l.place l.scopes) l.places
