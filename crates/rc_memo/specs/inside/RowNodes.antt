-- Nodes that name the rows of which they are targets, and the operands of these rows, as facts come.
use Rattle.std.specs.Prelude.{◌≡◌, ◌<◌, ℕ, List, [], ◌++◌, Option, None, Some, length, map, unwrap_or}
use Rattle.std.specs.List.{AllByRecursion}
use Rattle.std.specs.Map.{lookup}
use Rattle.std.specs.Option.{option_to_list}
use Rattle.indexmap.specs.IndexSet.{insert_key}
use Rattle.rc_names.specs.Numbers.{DeclarationId, ScopeId, same_id}
use Rattle.rc_memo.specs.Events.{listed}
use Rattle.rc_memo.specs.Facts.{Fact, first_missing}
use Rattle.rc_memo.specs.Level.{stronger}
use Rattle.rc_memo.specs.RowRecord.{nodes_of_rows, operands_at}
use Rattle.rc_memo.specs.declared.event.Mention.{Mention}
use Rattle.rc_memo.specs.declared.level.MemoizationLevel.TheVariants.{Never}
use Rattle.rc_memo.specs.declared.nodes.HeldNodes.{HeldNodes}
use Rattle.rc_memo.specs.declared.nodes.RowTarget.{RowTarget}
use Rattle.rc_memo.specs.declared.row_record.RowNode.{RowNode}
use Rattle.rc_memo.specs.inside.Growing.{insert_all}
use Rattle.rc_memo.specs.inside.Nodes.{HoldsNodes}

-- the nodes as they are held, and the operands of rows
abbrev pub HeldRowNodes : Type 0
HeldRowNodes = List (DeclarationId × RowNode)

abbrev pub RowOperands : Type 0
RowOperands = List (List DeclarationId)

abbrev pub empty_row_node : RowNode
empty_row_node = record { level = Never; rows = []; scopes = [] }

abbrev pub with_row_scope : ScopeId → RowNode → RowNode
with_row_scope scope node = record node { scopes = insert_key same_id node.scopes scope }

-- a node with what a row tells of it
abbrev pub with_target : RowTarget → RowNode → RowNode
with_target target node = record {
  level = stronger node.level target.level;
  rows = node.rows ++ option_to_list target.row;
  scopes = insert_all node.scopes (listed target.scope);
}

-- the rows of a node are among so many
abbrev pub RowsBelow : ℕ → DeclarationId × RowNode → Type 0
RowsBelow count entry = AllByRecursion (λ row. row < count) entry.1.rows

-- the nodes name rows that are there, and stand for the nodes of the facts
pub record HoldsRows (facts : List Fact) (operands : RowOperands) (row_nodes : HeldRowNodes) : Type 0 where
  pub rows_below : AllByRecursion (RowsBelow (length operands)) row_nodes
  pub nodes : HoldsNodes facts (nodes_of_rows operands row_nodes)

-- the first missing name is known, and where none is missing the nodes are held
pub record HoldsFacts (facts : List Fact) (held : HeldNodes) : Type 0 where
  pub missing : held.missing ≡ first_missing [] facts
  pub rows : held.missing ≡ None → HoldsRows facts held.operands held.nodes

-- there are these operands, and maybe more after them
pub record Extends (old new : RowOperands) : Type 0 where
  pub more : RowOperands
  pub whole : new ≡ old ++ more

-- a call adds facts, whatever the facts before are, and keeps the operands of rows where they are
pub record AddsFacts (facts : List Fact) (old new : HeldNodes) : Type 0 where
  pub holds : (before : List Fact) → HoldsFacts before old → HoldsFacts (before ++ facts) new
  pub kept : Extends old.operands new.operands

-- the names are at the position among the operands of rows; without a position there are none
abbrev pub IsRow : RowOperands → Option ℕ → List DeclarationId → Type 0
IsRow operands None names = names ≡ []
IsRow operands (Some row) names = (row < length operands) × (operands_at operands row ≡ names)

-- a name as the definitions resolve it
abbrev pub resolved : List (DeclarationId × DeclarationId) → DeclarationId → DeclarationId
resolved definitions name = unwrap_or (lookup (same_id name) definitions) name

-- the names that operands stand for
abbrev pub operand_names : (DeclarationId → DeclarationId) → List Mention → List DeclarationId
operand_names resolve operands = map (λ operand. resolve operand.name) operands
