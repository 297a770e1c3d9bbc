-- The lowest of some scopes, found one by one.
use Rattle.std.specs.Prelude.{List, [], ◌∷◌, Option, None, Some, Bool, nat_lt, is_none, if◌then◌else◌}
use Rattle.std.specs.Map.{lookup}
use Rattle.rc_names.specs.Numbers.{ScopeId, same_id}
use Rattle.rc_memo.specs.declared.row_record.RowRecord.{RowRecord}

-- whether a scope has no record
abbrev pub lacks : RowRecord → ScopeId → Bool
lacks rows scope = is_none (lookup (same_id scope) rows.scopes)

-- the lower of the scope so far and one more
abbrev pub lower : Option ScopeId → ScopeId → Option ScopeId
lower None scope = Some scope
lower (Some lowest) scope = if nat_lt scope.0 lowest.0 then Some scope else Some lowest

-- the lowest of the scope so far and a list
abbrev pub lowest_of : Option ScopeId → List ScopeId → Option ScopeId
lowest_of lowest [] = lowest
lowest_of lowest (scope ∷ scopes) = lowest_of (lower lowest scope) scopes
