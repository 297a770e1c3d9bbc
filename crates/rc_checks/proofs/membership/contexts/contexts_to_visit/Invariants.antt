use Rattle.std.proofs.Common.{◌≡◌, map, take}
use Rattle.rc_checks.specs.inside.ContextVisits.{by_range, places_to_visit}
use Rattle.rc_checks.proofs.membership.contexts.contexts_to_visit.Given as goal

-- what is visited of the contexts of the functions so far
abbrev pub invariant-loop-function : goal.invariant-loop-function
invariant-loop-function l =
    l.contexts ≡ map (λ function. by_range l.env (places_to_visit l.env l.blocks function.context))
    (take l.function-index l.functions)
