use Rattle.std.proofs.Common.{◌≡◌, drop}
use Rattle.std.specs.List.{find}
use Rattle.rc_checks.specs.inside.ContextVisits.{is_unknown}
use Rattle.rc_checks.proofs.membership.contexts.first_unknown.Given as goal

-- the first unknown place isn't among those so far
abbrev pub invariant-loop-place : goal.invariant-loop-place
invariant-loop-place l = find (is_unknown l.env) l.places ≡ find (is_unknown l.env) (drop l.place-index l.places)
