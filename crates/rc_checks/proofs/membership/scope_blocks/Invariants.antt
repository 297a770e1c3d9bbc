use Rattle.std.proofs.Common.{◌≡◌, take}
use Rattle.rc_names.specs.Numbers.{ScopeId, is_among}
use Rattle.rc_checks.proofs.membership.scope_blocks.Given as goal

-- the scopes so far are in the set, and no others
abbrev pub invariant-loop-scope : goal.invariant-loop-scope
invariant-loop-scope l = (scope : ScopeId) → is_among l.blocks scope ≡ is_among (take l.scope-index l.scope-items) scope
