-- A record in which each node has a row of its own.
use Rattle.std.specs.Prelude.{◌≡◌, ◌+◌, ℕ, List, [], ◌∷◌, ◌++◌, length, map}
use Rattle.indexmap.specs.IndexMap.{insert_entry}
use Rattle.rc_names.specs.Numbers.{DeclarationId, same_id}
use Rattle.rc_memo.specs.declared.record.MemoNode.{MemoNode}
use Rattle.rc_memo.specs.declared.record.MemoRecord.{MemoRecord}
use Rattle.rc_memo.specs.declared.row_record.RowNode.{RowNode}
use Rattle.rc_memo.specs.declared.row_record.RowRecord.{RowRecord}

-- the node with one row
abbrev pub with_row : MemoNode → ℕ → RowNode
with_row node row = record { level = node.level; rows = row ∷ []; scopes = node.scopes }

-- a node is put, whose dependencies are the operands of a new row
pub record AddsNode (before : RowRecord) (name : DeclarationId) (node : MemoNode) (after : RowRecord) : Type 0 where
  pub nodes : after.nodes ≡ insert_entry same_id before.nodes name (with_row node (length before.operands))
  pub operands : after.operands ≡ before.operands ++ node.dependencies ∷ []
  pub scopes : after.scopes ≡ before.scopes
  pub escaping : after.escaping ≡ before.escaping

-- the nodes, each with a row whose position is the node's own, from a position on
abbrev pub nodes_from : ℕ → List (DeclarationId × MemoNode) → List (DeclarationId × RowNode)
nodes_from place [] = []
nodes_from place (entry ∷ entries) = (entry.0, with_row entry.1 place) ∷ nodes_from (place + 1) entries

-- each node has a row, whose operands are its dependencies
pub record IsOneRowEach (rec : MemoRecord) (rows : RowRecord) : Type 0 where
  pub nodes : rows.nodes ≡ nodes_from 0 rec.nodes
  pub operands : rows.operands ≡ map (λ entry. entry.1.dependencies) rec.nodes
  pub scopes : rows.scopes ≡ rec.scopes
  pub escaping : rows.escaping ≡ rec.escaping
