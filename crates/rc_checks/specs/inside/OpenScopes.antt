-- How a scope is found among those that are open without a look through them. The innermost block comes first.
use Rattle.std.specs.Prelude.{◌≡◌, List, [], ◌∷◌, map, not}
use Rattle.indexmap.specs.IndexSet.{insert_key}
use Rattle.rc_names.specs.Numbers.{ScopeId, is_among, same_id}
use Rattle.rc_checks.specs.declared.membership.open_scopes.OpenBlock.{OpenBlock}

-- the scopes of blocks
abbrev pub scopes_of : List OpenBlock → List ScopeId
scopes_of blocks = map (λ (block : OpenBlock). block.scope) blocks

-- the same, each once, in the order in which they were opened
abbrev pub distinct_scopes : List OpenBlock → List ScopeId
distinct_scopes [] = []
distinct_scopes (block ∷ outer) = insert_key same_id (distinct_scopes outer) block.scope

-- each block says whether no block of its scope is further out
abbrev pub AreMarked : List OpenBlock → Type 0
AreMarked [] = Unit {0}
AreMarked (block ∷ outer) = (block.is_outermost ≡ not (is_among (distinct_scopes outer) block.scope)) × AreMarked outer
