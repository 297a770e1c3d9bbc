use Rattle.std.proofs.Common.{◌≡◌, drop}
use Rattle.rc_flow.specs.inside.Told.{with_places}
use Rattle.rc_flow.proofs.taking.mark_places.Given as goal

-- the places that are left do the rest
abbrev pub invariant-loop-place : goal.invariant-loop-place
invariant-loop-place l =
    with_places l.places l.initial.names ≡ with_places (drop l.place-index l.places) l.names
