-- The walk over a record that decides which names are memoized.
use Rattle.std.specs.Prelude.{◌≡◌, ◌||◌, Bool, true, false, List, [], ◌∷◌, Option, None, Some}
use Rattle.std.specs.Map.{lookup}
use Rattle.rc_names.specs.Numbers.{DeclarationId, ScopeId, same_id}
use Rattle.rc_memo.specs.declared.level.MemoizationLevel.{MemoizationLevel}
use Rattle.rc_memo.specs.declared.level.MemoizationLevel.TheVariants.{Memoized, Conditional, Unmemoized, Never}
use Rattle.rc_memo.specs.declared.record.MemoNode.{MemoNode}
use Rattle.rc_memo.specs.declared.record.MemoRecord.{MemoRecord}

-- the node of a name
abbrev pub node_of : MemoRecord → DeclarationId → Option MemoNode
node_of record' name = lookup (same_id name) record'.nodes

-- the names that a scope depends on, where the scope has a record
abbrev pub dependencies_of : MemoRecord → ScopeId → Option (List DeclarationId)
dependencies_of record' scope = lookup (same_id scope) record'.scopes

-- what a walk has met so far: the names that it has visited, the names that it has memoized, and the scopes that it
-- has taken
pub record Progress : Type 0 where
  pub seen : DeclarationId → Bool
  pub memoized : DeclarationId → Bool
  pub taken : ScopeId → Bool

-- before the walk nothing is met
abbrev pub nothing_met : Progress
nothing_met = record { seen = λ name. false; memoized = λ name. false; taken = λ scope. false }

-- one more name is visited
abbrev pub with_seen : Progress → DeclarationId → Progress
with_seen met name = record met { seen = λ other. same_id other name || met.seen other }

-- one more name is memoized
abbrev pub with_memoized : Progress → DeclarationId → Progress
with_memoized met name = record met { memoized = λ other. same_id other name || met.memoized other }

-- one more scope is taken
abbrev pub with_taken : Progress → ScopeId → Progress
with_taken met scope = record met { taken = λ other. same_id other scope || met.taken other }

-- whether a node of that level is memoized, by a visit that is forced or not, where one of its dependencies is memoized
-- or none is
abbrev pub memoizes : MemoizationLevel → (forced needs_one : Bool) → Bool
memoizes Memoized forced needs_one = true
memoizes Conditional forced needs_one = needs_one || forced
memoizes Unmemoized forced needs_one = forced
memoizes Never forced needs_one = false

mutual
  -- one visit: the name, whether it is forced, what was met before and after, and whether the name counts as memoized
  pub data VisitsName (r : MemoRecord) : DeclarationId → Bool → Progress → Progress → Bool → Type 0 where
    -- a name without a node isn't memoized
    absent : {name : DeclarationId} {forced : Bool} {met : Progress}
        → node_of r name ≡ None
        → VisitsName r name forced met met false
    -- a name that was visited before counts as memoized only where that is decided already
    again : {name : DeclarationId} {node : MemoNode} {forced answer : Bool} {met : Progress}
        → node_of r name ≡ Some node → met.seen name ≡ true
        → answer ≡ met.memoized name
        → VisitsName r name forced met met answer
    -- any other name is visited: first its dependencies, unforced; then its node is decided
    first_time : {name : DeclarationId} {node : MemoNode} {forced needs_one answer : Bool} {met visited end : Progress}
        → node_of r name ≡ Some node → met.seen name ≡ false
        → VisitsNames r node.dependencies false (with_seen met name) visited needs_one
        → answer ≡ memoizes node.level forced needs_one
        → DecidesNode r name node answer visited end
        → VisitsName r name forced met end answer

  -- the visits of names in their order, and whether one of them counts as memoized
  pub data VisitsNames (r : MemoRecord) : List DeclarationId → Bool → Progress → Progress → Bool → Type 0 where
    no_names : {forced : Bool} {met : Progress} → VisitsNames r [] forced met met false
    next_name : {name : DeclarationId} {names : List DeclarationId} {forced first rest answer : Bool}
        {met visited end : Progress}
        → VisitsName r name forced met visited first
        → VisitsNames r names forced visited end rest
        → answer ≡ (first || rest)
        → VisitsNames r (name ∷ names) forced met end answer

  -- a node is decided: where it is memoized, its scopes are taken
  pub data DecidesNode (r : MemoRecord) : DeclarationId → MemoNode → Bool → Progress → Progress → Type 0 where
    passes : {name : DeclarationId} {node : MemoNode} {met : Progress} → DecidesNode r name node false met met
    memoizes_it : {name : DeclarationId} {node : MemoNode} {met end : Progress}
        → TakesScopes r node.scopes (with_memoized met name) end
        → DecidesNode r name node true met end

  -- scopes are taken in their order, each once over the whole walk: the dependencies of a scope are visited, forced
  pub data TakesScopes (r : MemoRecord) : List ScopeId → Progress → Progress → Type 0 where
    no_scopes : {met : Progress} → TakesScopes r [] met met
    without_record : {scope : ScopeId} {scopes : List ScopeId} {met end : Progress}
        → dependencies_of r scope ≡ None
        → TakesScopes r scopes met end
        → TakesScopes r (scope ∷ scopes) met end
    taken_before : {scope : ScopeId} {scopes : List ScopeId} {names : List DeclarationId} {met end : Progress}
        → dependencies_of r scope ≡ Some names → met.taken scope ≡ true
        → TakesScopes r scopes met end
        → TakesScopes r (scope ∷ scopes) met end
    takes_it : {scope : ScopeId} {scopes : List ScopeId} {names : List DeclarationId} {answer : Bool}
        {met visited end : Progress}
        → dependencies_of r scope ≡ Some names → met.taken scope ≡ false
        → VisitsNames r names true (with_taken met scope) visited answer
        → TakesScopes r scopes visited end
        → TakesScopes r (scope ∷ scopes) met end
