use Rattle.std.proofs.Common.{subst}
use Rattle.std.proofs.lemmas.List.{take_all}
use Rattle.rc_why.proofs.PlacesLemmas.{place_noted}
use Rattle.rc_why.specs.inside.Places.{HasPlaces}
use Rattle.rc_why.proofs.reasons.lookups.places_of.Goals as goal

pub loop-place-preserved : goal.loop-place-preserved
loop-place-preserved c =
    place_noted c.args.scopes.now c.loop-place.place _ c.loop-place-test.true c.loop-place.places _
    c.in_ok-insert.ensures.entries c.loop-place.invariant

pub returns : goal.returns
returns c = subst (λ first. HasPlaces c.args.scopes.now first c.loop-place.places)
    (take_all c.loop-place.place c.args.scopes.now c.loop-place-test.false) c.loop-place.invariant
