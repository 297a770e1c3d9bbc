use Rattle.std.proofs.Common.{◌≡◌, drop}
use Rattle.rc_merge.specs.inside.LastUsesMet.{uses_of, with_places}
use Rattle.rc_merge.proofs.last_uses.add_places.Given as goal

-- the places that are left do the rest
abbrev pub invariant-loop-place : goal.invariant-loop-place
invariant-loop-place l = with_places l.env l.id l.places (uses_of l.initial.uses)
    ≡ with_places l.env l.id (drop l.place-index l.places) (uses_of l.uses)
