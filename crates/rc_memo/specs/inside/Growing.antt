-- Sets and maps that grow as events come.
use Rattle.std.specs.Prelude.{◌≡◌, List, [], ◌∷◌, ◌++◌}
use Rattle.indexmap.specs.IndexSet.{insert_key}
use Rattle.rc_hir.specs.Model.{Environment}
use Rattle.rc_names.specs.Numbers.{DeclarationId, ScopeId, same_id}
use Rattle.rc_names.specs.declared.numbers.Id.{Id}
use Rattle.rc_memo.specs.Facts.{distinct}
use Rattle.rc_memo.specs.Record.{recorded_scopes}

-- a set with some more keys, one by one
abbrev pub insert_all : {K : Type 0} → List (Id K) → List (Id K) → List (Id K)
insert_all keys [] = keys
insert_all keys (key ∷ more) = insert_all (insert_key same_id keys key) more

-- records of the scopes that came before become records of more
unfoldable pub AddsScopes : Environment → List ScopeId → (old new : List (ScopeId × List DeclarationId)) → Type 0
AddsScopes env more old new = (before : List ScopeId) → old ≡ recorded_scopes env (distinct same_id before)
    → new ≡ recorded_scopes env (distinct same_id (before ++ more))
