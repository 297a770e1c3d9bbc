-- The least and the greatest set of memoized names, between which the names lie that the walk memoizes.
use Rattle.std.specs.Prelude.{◌≡◌, List, Some, Contains}
use Rattle.rc_names.specs.Numbers.{DeclarationId, ScopeId}
use Rattle.rc_memo.specs.declared.level.MemoizationLevel.TheVariants.{Memoized, Conditional, Unmemoized}
use Rattle.rc_memo.specs.declared.record.MemoNode.{MemoNode}
use Rattle.rc_memo.specs.declared.record.MemoRecord.{MemoRecord}
use Rattle.rc_escape.specs.MemoWalk.{node_of, dependencies_of}

-- an escaping name reaches the name through recorded dependencies
pub data IsNeeded (r : MemoRecord) : DeclarationId → Type 0 where
  escapes : {name : DeclarationId} → Contains r.escaping name → IsNeeded r name
  by_dependency : {name needed : DeclarationId} {node : MemoNode}
      → IsNeeded r name → node_of r name ≡ Some node → Contains node.dependencies needed
      → IsNeeded r needed

-- the least set: the names that have to be memoized wherever they are needed, and that are needed
pub record IsInLeastSet (r : MemoRecord) (name : DeclarationId) : Type 0 where
  pub needed : IsNeeded r name
  pub node : MemoNode
  pub is_node : node_of r name ≡ Some node
  pub level : node.level ≡ Memoized

-- a scope of a node that the second name depends on through that scope
pub record HasScopeDependency (r : MemoRecord) (node : MemoNode) (name : DeclarationId) : Type 0 where
  pub scope : ScopeId
  pub names : List DeclarationId
  pub of_node : Contains node.scopes scope
  pub recorded : dependencies_of r scope ≡ Some names
  pub among : Contains names name

mutual
  -- the names that the walk may visit
  pub data CanBeReached (r : MemoRecord) : DeclarationId → Type 0 where
    escapes : {name : DeclarationId} → Contains r.escaping name → CanBeReached r name
    by_dependency : {name needed : DeclarationId} {node : MemoNode}
        → CanBeReached r name → node_of r name ≡ Some node → Contains node.dependencies needed
        → CanBeReached r needed
    by_scope : {name : DeclarationId} → CanBeForced r name → CanBeReached r name

  -- the names that the walk may visit forced: a scope of a memoized name depends on them
  pub data CanBeForced (r : MemoRecord) : DeclarationId → Type 0 where
    by_memoized : {name forced : DeclarationId} {node : MemoNode}
        → IsInGreatestSet r name → node_of r name ≡ Some node → HasScopeDependency r node forced
        → CanBeForced r forced

  -- the greatest set: the names that the walk may memoize
  pub data IsInGreatestSet (r : MemoRecord) : DeclarationId → Type 0 where
    memoized : {name : DeclarationId} {node : MemoNode}
        → CanBeReached r name → node_of r name ≡ Some node → node.level ≡ Memoized
        → IsInGreatestSet r name
    conditional_forced : {name : DeclarationId} {node : MemoNode}
        → CanBeReached r name → node_of r name ≡ Some node → node.level ≡ Conditional
        → CanBeForced r name
        → IsInGreatestSet r name
    conditional_needed : {name needed : DeclarationId} {node : MemoNode}
        → CanBeReached r name → node_of r name ≡ Some node → node.level ≡ Conditional
        → Contains node.dependencies needed → IsInGreatestSet r needed
        → IsInGreatestSet r name
    unmemoized_forced : {name : DeclarationId} {node : MemoNode}
        → CanBeReached r name → node_of r name ≡ Some node → node.level ≡ Unmemoized
        → CanBeForced r name
        → IsInGreatestSet r name

-- each name of the least set is in the set
abbrev pub HasLeastSet : MemoRecord → List DeclarationId → Type 0
HasLeastSet r set = (name : DeclarationId) → IsInLeastSet r name → Contains set name

-- each name of the set is in the greatest set
abbrev pub IsWithinGreatestSet : MemoRecord → List DeclarationId → Type 0
IsWithinGreatestSet r set = (name : DeclarationId) → Contains set name → IsInGreatestSet r name
