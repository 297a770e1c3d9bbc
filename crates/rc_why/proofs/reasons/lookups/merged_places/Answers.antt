use Rattle.std.proofs.Common.{◌∙◌, IfOk, subst}
use Rattle.rc_why.specs.inside.Places.{ArePlaces}
use Rattle.rc_why.proofs.reasons.lookups.merged_places.Goals as goal

pub returns : goal.returns
returns c = subst (λ scopes. IfOk c.places_of.result (ArePlaces scopes))
    (c.as_slice.ensures ∙ c.in_ok-scopes.ensures) c.places_of.ensures
