use Rattle.std.proofs.Common.{◌≡◌, ◌≤◌, drop, length, reverse}
use Rattle.rc_names.specs.Numbers.{ScopeId, is_among}
use Rattle.rc_checks.specs.inside.ContextVisits.{has_scope, places_to_visit}
use Rattle.rc_checks.proofs.membership.contexts.places_to_visit.Given as goal

-- turned round, the places found are those to visit from an index on, and their scopes are met
abbrev pub invariant-loop-at : goal.invariant-loop-at
invariant-loop-at l = record {
  inside : l.at ≤ length l.context;
  left : reverse l.places ≡ places_to_visit l.env l.blocks (drop l.at l.context);
  scopes : (scope : ScopeId) → is_among l.met scope ≡ has_scope l.env (reverse l.places) scope;
}

abbrev pub decreases-loop-at : goal.decreases-loop-at
decreases-loop-at l = l.at
