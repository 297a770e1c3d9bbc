-- The nodes that facts about names give, name by name.
--
-- A row tells facts of resolved names: a name is a target of some level, it depends on another name, it has a scope, or
-- it is needed. A name that is a target has a node: what the facts tell of it, in the order in which it first came.
use Rattle.std.specs.Prelude.{Bool, not, List, [], ◌∷◌, ◌++◌, Option, None, Some, filter, filter_map, map}
use Rattle.std.specs.Prelude.{if◌then◌else◌}
use Rattle.rc_names.specs.Numbers.{DeclarationId, ScopeId, is_among, same_id}
use Rattle.rc_memo.specs.Level.{stronger}
use Rattle.rc_memo.specs.declared.level.MemoizationLevel.{MemoizationLevel}
use Rattle.rc_memo.specs.declared.level.MemoizationLevel.TheVariants.{Never}
use Rattle.rc_memo.specs.declared.record.MemoNode.{MemoNode}

-- what is told of a name
pub data Fact : Type 0 where
  -- it is a target of that level
  GivesLevel : (name : DeclarationId) (level : MemoizationLevel) → Fact
  -- it depends on the other name
  DependsOn : (name other : DeclarationId) → Fact
  -- it has the scope
  HasScope : (name : DeclarationId) (scope : ScopeId) → Fact
  -- it needs a node
  NeedsNode : (name : DeclarationId) → Fact

-- each entry once, where it first comes
abbrev pub distinct : {X : Type 0} → (X → X → Bool) → List X → List X
distinct same [] = []
distinct same (x ∷ xs) = x ∷ filter (λ y. not (same x y)) (distinct same xs)

-- the strongest of some levels, and `Never` of none
abbrev pub strongest : List MemoizationLevel → MemoizationLevel
strongest [] = Never
strongest (level ∷ levels) = stronger level (strongest levels)

-- a value where the test passes
abbrev pub only_if : {X : Type 0} → Bool → X → Option X
only_if passes x = if passes then Some x else None

-- the name that a fact makes a target
abbrev pub target_told : Fact → Option DeclarationId
target_told (GivesLevel name level) = Some name
target_told _ = None

-- the level, the dependency and the scope that a fact tells of a name
abbrev pub level_told : DeclarationId → Fact → Option MemoizationLevel
level_told name (GivesLevel other level) = only_if (same_id name other) level
level_told name _ = None

abbrev pub dependency_told : DeclarationId → Fact → Option DeclarationId
dependency_told name (DependsOn other dependency) = only_if (same_id name other) dependency
dependency_told name _ = None

abbrev pub scope_told : DeclarationId → Fact → Option ScopeId
scope_told name (HasScope other scope) = only_if (same_id name other) scope
scope_told name _ = None

-- the node of a name: the strongest level of its targets, and its dependencies and scopes in the order of first coming
unfoldable pub node_told : List Fact → DeclarationId → MemoNode
node_told facts name = record {
  level = strongest (filter_map (level_told name) facts);
  dependencies = distinct same_id (filter_map (dependency_told name) facts);
  scopes = distinct same_id (filter_map (scope_told name) facts);
}

-- the names that are a target of some fact, in the order of first coming
unfoldable pub names_told : List Fact → List DeclarationId
names_told facts = distinct same_id (filter_map target_told facts)

-- names, each with its value
abbrev pub at_each : {V : Type 0} → (DeclarationId → V) → List DeclarationId → List (DeclarationId × V)
at_each value names = map (λ name. (name, value name)) names

-- the nodes: of each name that is a target
abbrev pub nodes_told : List Fact → List (DeclarationId × MemoNode)
nodes_told facts = at_each (node_told facts) (names_told facts)

-- the name that a fact needs a node of; a target gets one
abbrev pub needed_by : Fact → Option DeclarationId
needed_by (GivesLevel name level) = None
needed_by (DependsOn name other) = Some name
needed_by (HasScope name scope) = Some name
needed_by (NeedsNode name) = Some name

-- the name that is needed, where it is no target of the facts before
abbrev pub missing_now : List Fact → Option DeclarationId → Option DeclarationId
missing_now before None = None
missing_now before (Some name) = if is_among (names_told before) name then None else Some name

-- the first of two names, if there is one
abbrev pub or_else : {X : Type 0} → Option X → Option X → Option X
or_else None later = later
or_else (Some x) later = Some x

-- the first name of which a fact needs a node, and which is no target of a fact before it
abbrev pub first_missing : List Fact → List Fact → Option DeclarationId
first_missing before [] = None
first_missing before (fact ∷ facts) =
    or_else (missing_now before (needed_by fact)) (first_missing (before ++ fact ∷ []) facts)
