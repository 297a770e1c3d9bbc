-- What the walk has met, where its state says it by positions in the record.
use Rattle.std.specs.Prelude.{◌≡◌, ℕ, Bool, true, false, List, Option, None, Some, nat_eq, position}
use Rattle.std.specs.Prelude.{slice_get, unwrap_or}
use Rattle.std.specs.Map.{keys_of}
use Rattle.std.specs.Option.{option_map_or}
use Rattle.rc_names.specs.Numbers.{DeclarationId, ScopeId, same_id}
use Rattle.rc_memo.specs.declared.row_record.RowNode.{RowNode}
use Rattle.rc_memo.specs.declared.row_record.RowRecord.{RowRecord}
use Rattle.rc_escape.specs.declared.walk_state.NodeMark.{NodeMark}
use Rattle.rc_escape.specs.declared.walk_state.NodeMark.TheVariants.{Unseen, Seen, Memoized}
use Rattle.rc_escape.specs.declared.walk_state.WalkState.{WalkState}
use Rattle.rc_escape.specs.MemoWalk.{Progress}

-- the entry at a place, and a value past the end
abbrev pub entry_or : {X : Type 0} → X → List X → ℕ → X
entry_or value entries place = unwrap_or (slice_get entries place) value

-- the entry at a place that may be none
abbrev pub entry_at : {X : Type 0} → X → List X → Option ℕ → X
entry_at value entries None = value
entry_at value entries (Some place) = entry_or value entries place

-- whether a truth value is true at a place
unfoldable pub is_set : List Bool → ℕ → Bool
is_set bits place = entry_or false bits place

-- whether a mark says that the node is visited, and that it is memoized
abbrev pub says_seen : NodeMark → Bool
says_seen Unseen = false
says_seen Seen = true
says_seen Memoized = true

abbrev pub says_memoized : NodeMark → Bool
says_memoized Unseen = false
says_memoized Seen = false
says_memoized Memoized = true

-- whether the node at a place is memoized
abbrev pub is_memoized : List NodeMark → ℕ → Bool
is_memoized marks place = says_memoized (entry_or Unseen marks place)

-- the position of a name's node, and of a scope's record
abbrev pub node_place : RowRecord → DeclarationId → Option ℕ
node_place rows name = position (same_id name) (keys_of rows.nodes)

abbrev pub scope_place : RowRecord → ScopeId → Option ℕ
scope_place rows scope = position (same_id scope) (keys_of rows.scopes)

-- whether a name's node has the position
abbrev pub is_place_of : RowRecord → ℕ → DeclarationId → Bool
is_place_of rows place name = option_map_or (nat_eq place) (node_place rows name) false

-- the mark of a name
abbrev pub mark_of : RowRecord → List NodeMark → DeclarationId → NodeMark
mark_of rows marks name = entry_at Unseen marks (node_place rows name)

-- what is met so far
unfoldable pub progress : RowRecord → WalkState → Progress
progress rows state = record {
  seen = λ name. says_seen (mark_of rows state.marks name);
  memoized = λ name. says_memoized (mark_of rows state.marks name);
  taken = λ scope. entry_at false state.taken (scope_place rows scope);
}

-- a name's node with its position
pub record IsNodeAt (rows : RowRecord) (name : DeclarationId) (place : ℕ) (node : RowNode) : Type 0 where
  pub place_is : node_place rows name ≡ Some place
  pub entry : slice_get rows.nodes place ≡ Some (name, node)

-- a scope's record with its position
pub record IsScopeAt (rows : RowRecord) (scope : ScopeId) (place : ℕ) (names : List DeclarationId) : Type 0 where
  pub place_is : scope_place rows scope ≡ Some place
  pub entry : slice_get rows.scopes place ≡ Some (scope, names)
