-- Nodes that change as facts about names come.
use Rattle.std.specs.Prelude.{◌≡◌, false, List, [], ◌∷◌, ◌++◌, None, if◌then◌else◌}
use Rattle.indexmap.specs.IndexSet.{insert_key}
use Rattle.rc_names.specs.Numbers.{DeclarationId, ScopeId, is_among, same_id}
use Rattle.rc_memo.specs.Facts.{Fact, first_missing, names_told, node_told, nodes_told}
use Rattle.rc_memo.specs.Level.{stronger}
use Rattle.rc_memo.specs.declared.level.MemoizationLevel.{MemoizationLevel}
use Rattle.rc_memo.specs.declared.level.MemoizationLevel.TheVariants.{Never}
use Rattle.rc_memo.specs.declared.record.MemoNode.{MemoNode}

-- the nodes as they are held
abbrev pub Held : Type 0
Held = List (DeclarationId × MemoNode)

-- the entry of a name is changed
abbrev pub at_name : {V : Type 0} → DeclarationId → (V → V) → List (DeclarationId × V) → List (DeclarationId × V)
at_name name change [] = []
at_name name change (entry ∷ entries) =
    if same_id name entry.0 then (entry.0, change entry.1) ∷ entries else entry ∷ at_name name change entries

-- the entry of a name is changed; a name without an entry gets the changed empty value
abbrev pub at_name_or : {V : Type 0} → V → DeclarationId → (V → V) → List (DeclarationId × V) → List (DeclarationId × V)
at_name_or empty name change [] = (name, change empty) ∷ []
at_name_or empty name change (entry ∷ entries) =
    if same_id name entry.0 then (entry.0, change entry.1) ∷ entries else entry ∷ at_name_or empty name change entries

abbrev pub empty_node : MemoNode
empty_node = record { level = Never; dependencies = []; scopes = [] }

abbrev pub with_dependency : DeclarationId → MemoNode → MemoNode
with_dependency other node = record node { dependencies = insert_key same_id node.dependencies other }

abbrev pub with_scope : ScopeId → MemoNode → MemoNode
with_scope scope node = record node { scopes = insert_key same_id node.scopes scope }

abbrev pub with_level : MemoizationLevel → MemoNode → MemoNode
with_level level node = record node { level = stronger node.level level }

-- the nodes are those of the facts, which tell nothing of a name that is no target
pub record HoldsNodes (facts : List Fact) (nodes : Held) : Type 0 where
  pub nodes_are : nodes ≡ nodes_told facts
  pub grounded : (name : DeclarationId) → is_among (names_told facts) name ≡ false → node_told facts name ≡ empty_node

-- nodes of the facts before become nodes of more, none of which misses a name
unfoldable pub AddsNodes : List Fact → Held → Held → Type 0
AddsNodes facts old new = (before : List Fact) → HoldsNodes before old
    → (first_missing before facts ≡ None) × HoldsNodes (before ++ facts) new
