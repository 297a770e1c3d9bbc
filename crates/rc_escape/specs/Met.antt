-- What the pass on scopes that don't escape has met: the scopes whose blocks gave way, and the names with a scope that
-- were stored into a declaration.
use Rattle.std.specs.Prelude.{Bool, List, [], ◌∷◌, ◌++◌, Option, None, Some, unwrap_or, if◌then◌else◌}
use Rattle.std.specs.List.{list_all}
use Rattle.std.specs.Map.{lookup}
use Rattle.indexmap.specs.IndexSet.{insert_key}
use Rattle.rc_names.specs.Numbers.{DeclarationId, ScopeId, is_among, same_id}
use Rattle.rc_escape.specs.declared.not_escaping.met.Met.{Met}
use Rattle.rc_escape.specs.declared.not_escaping.met.Store.{Store}
use Rattle.rc_escape.specs.Outputs.{not_escaping}

-- each declaration into which a name with a scope was stored, with the scopes of these names
abbrev pub Stores : Type 0
Stores = List (DeclarationId × List ScopeId)

-- one more name is stored
abbrev pub with_store : Store → Stores → Stores
with_store store [] = (store.declaration, store.scope ∷ []) ∷ []
with_store store (entry ∷ entries) =
    if same_id store.declaration entry.0 then (entry.0, insert_key same_id entry.1 store.scope) ∷ entries
    else entry ∷ with_store store entries

-- nothing is met yet
abbrev pub nothing_met : Met
nothing_met = record { dissolved = []; log = []; stored = [] }

-- a name is stored, where there is one
abbrev pub with_store_if : Option Store → Met → Met
with_store_if None met = met
with_store_if (Some store) met = record met { stored = with_store store met.stored }

-- one more scope block gave way
abbrev pub with_dissolved : ScopeId → Met → Met
with_dissolved scope met = record met {
  dissolved = insert_key same_id met.dissolved scope;
  log = met.log ++ not_escaping scope ∷ [];
}

-- one more scope block gave way, or stays
abbrev pub with_dissolved_if : Bool → ScopeId → Met → Met
with_dissolved_if dissolved scope met = if dissolved then with_dissolved scope met else met

-- the block of each of these scopes gave way
abbrev pub are_dissolved : Met → List ScopeId → Bool
are_dissolved met scopes = list_all (is_among met.dissolved) scopes

-- the scopes of the names that were stored into a declaration
abbrev pub stored_into : Met → DeclarationId → List ScopeId
stored_into met declaration = unwrap_or (lookup (same_id declaration) met.stored) []
