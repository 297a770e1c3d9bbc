-- The rows of a block as the builder puts them.
use Rattle.std.specs.Prelude.{◌≡◌, ◌++◌, true, false, List, Some, map}
use Rattle.std.specs.List.{list_any}
use Rattle.rc_names.specs.Numbers.{InstructionId}
use Rattle.rc_hir.specs.Model.{Instruction, BasicBlock, HirFunction}
use Rattle.rc_tree.specs.Model.{ReactiveStatement}
use Rattle.rc_runs.specs.Silent.{is_unset}
use Rattle.rc_runs.specs.Graph.{rows_of, has_all_ids}
use Rattle.rc_runs.specs.PlainTree.{Base, RowStatement}
use Rattle.rc_runs.specs.TreeOf.{statement_of}

-- the statement of a row
abbrev pub row_statement_of : Instruction → ReactiveStatement
row_statement_of row = statement_of (RowStatement row.id (Some row.lvalue) (Base row.value) row.span)

-- the block's rows are there, and no id of them or of its terminal is unset
pub record HasIds (hir : HirFunction) (block : BasicBlock) : Type 0 where
  pub rows : List Instruction
  pub filled : rows_of hir.instructions block.instructions ≡ Some rows
  pub set : has_all_ids (record { rows = rows; terminal = block.terminal }) ≡ true

-- the same, and the statements of the rows are appended
pub record BuiltRows (hir : HirFunction) (block : BasicBlock) (out whole : List ReactiveStatement) : Type 0 where
  pub rows : List Instruction
  pub filled : rows_of hir.instructions block.instructions ≡ Some rows
  pub set : has_all_ids (record { rows = rows; terminal = block.terminal }) ≡ true
  pub put : whole ≡ out ++ map row_statement_of rows

-- how far the loop over a block's rows has come
pub record RowsSoFar (hir : HirFunction) (numbers : List InstructionId)
    (out whole : List ReactiveStatement) : Type 0 where
  pub rows : List Instruction
  pub filled : rows_of hir.instructions numbers ≡ Some rows
  pub set : list_any (λ row. is_unset row.id) rows ≡ false
  pub put : whole ≡ out ++ map row_statement_of rows
