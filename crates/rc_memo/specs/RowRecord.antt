-- The memo record whose rows have their operands once, however many targets a row has.
use Rattle.std.specs.Prelude.{ℕ, not, List, [], filter, map, slice_get, unwrap_or}
use Rattle.std.specs.List.{flat_map}
use Rattle.rc_names.specs.Numbers.{DeclarationId, same_id}
use Rattle.rc_memo.specs.Facts.{distinct}
use Rattle.rc_memo.specs.declared.record.MemoNode.{MemoNode}
use Rattle.rc_memo.specs.declared.record.MemoRecord.{MemoRecord}
use Rattle.rc_memo.specs.declared.row_record.RowNode.{RowNode}
use Rattle.rc_memo.specs.declared.row_record.RowRecord.{RowRecord}

-- names but one
abbrev pub names_but : DeclarationId → List DeclarationId → List DeclarationId
names_but name names = filter (λ other. not (same_id name other)) names

module _ (operands : List (List DeclarationId)) where
  -- the operands at a position
  abbrev pub operands_at : ℕ → List DeclarationId
  operands_at row = unwrap_or (slice_get operands row) []

  -- the operands of rows, one row after the other
  abbrev pub operands_of : List ℕ → List DeclarationId
  operands_of rows = flat_map operands_at rows

  -- the node of a name, which depends on the operands of its rows but itself, in the order in which they first come
  unfoldable pub node_of_rows : DeclarationId → RowNode → MemoNode
  node_of_rows name node = record {
    level = node.level;
    dependencies = distinct same_id (names_but name (operands_of node.rows));
    scopes = node.scopes;
  }

  abbrev pub nodes_of_rows : List (DeclarationId × RowNode) → List (DeclarationId × MemoNode)
  nodes_of_rows nodes = map (λ entry. (entry.0, node_of_rows entry.0 entry.1)) nodes

-- the record with each name's dependencies in its node
unfoldable pub record_of_rows : RowRecord → MemoRecord
record_of_rows rows = record {
  nodes = nodes_of_rows rows.operands rows.nodes;
  scopes = rows.scopes;
  definitions = rows.definitions;
  escaping = rows.escaping;
}
