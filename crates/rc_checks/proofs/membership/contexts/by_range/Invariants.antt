use Rattle.std.proofs.Common.{◌≡◌, take}
use Rattle.rc_checks.specs.inside.ContextVisits.{known_places}
use Rattle.rc_checks.proofs.membership.contexts.by_range.Given as goal

-- the known ones of the places so far
abbrev pub invariant-loop-place : goal.invariant-loop-place
invariant-loop-place l = l.known ≡ known_places l.env (take l.place-index l.places)
