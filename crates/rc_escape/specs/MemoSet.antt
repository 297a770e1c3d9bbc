-- The memoized names of a record, and the cause of its refusal.
use Rattle.std.specs.Prelude.{◌≡◌, ◌≤◌, Bool, false, List, filter, flat_map, is_none, Contains}
use Rattle.rc_hir.specs.Model.{Fault}
use Rattle.rc_hir.specs.declared.fault.Fault.TheVariants as faults
use Rattle.rc_names.specs.Numbers.{DeclarationId, ScopeId, is_among}
use Rattle.rc_memo.specs.declared.record.MemoRecord.{MemoRecord}
use Rattle.rc_escape.specs.MemoWalk.{dependencies_of, nothing_met, Progress, VisitsNames}

-- the walk from the escaping names ends with what is met
pub record IsWalked (r : MemoRecord) (met : Progress) : Type 0 where
  pub answer : Bool
  pub visits : VisitsNames r r.escaping false nothing_met met answer

-- the set has the names that are memoized
abbrev pub HasMemoized : List DeclarationId → Progress → Type 0
HasMemoized set met = (name : DeclarationId) → is_among set name ≡ met.memoized name

-- the set has the names that the walk from the escaping names memoizes
pub record IsMemoSet (r : MemoRecord) (set : List DeclarationId) : Type 0 where
  pub end : Progress
  pub walked : IsWalked r end
  pub names : HasMemoized set end

-- the scopes of the nodes that have no record, node by node
abbrev pub scopes_without_record : MemoRecord → List ScopeId
scopes_without_record r = flat_map (λ entry. filter (λ scope. is_none (dependencies_of r scope)) entry.1.scopes) r.nodes

-- the scope is in the list, and no scope of the list has a lower number
pub record IsLowest (scopes : List ScopeId) (scope : ScopeId) : Type 0 where
  pub among : Contains scopes scope
  pub lowest : (other : ScopeId) → Contains scopes other → scope.0 ≤ other.0

-- the fault names the lowest scope of a node that has no record
pub record IsNoScopeNode (r : MemoRecord) (fault : Fault) : Type 0 where
  pub scope : ScopeId
  pub names_it : fault ≡ faults.NoScopeNode scope
  pub lowest : IsLowest (scopes_without_record r) scope
