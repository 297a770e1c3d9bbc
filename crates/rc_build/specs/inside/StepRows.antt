-- The row of each block after which a value goes on.
use Rattle.std.specs.Prelude.{◌≡◌, true, false, List, [], ◌∷◌, Option, Some, None}
use Rattle.rc_names.specs.Numbers.{BlockId, EvaluationOrder, same_id}
use Rattle.rc_names.specs.declared.span.Span.{Span}
use Rattle.rc_hir.specs.Model.{BasicBlock, HirFunction, Environment}
use Rattle.rc_hir.specs.declared.terminal.Terminal.TheVariants as terminals
use Rattle.rc_tree.specs.Model.{ReactiveInstruction}
use Rattle.rc_runs.specs.Graph.{Block, basic_block, block_at, is_empty_goto, usable_block}
use Rattle.rc_runs.specs.ListContext.{is_current}
use Rattle.rc_runs.specs.PlainTree.{NoRows, Row}
use Rattle.rc_runs.specs.Silent.{is_unset}
use Rattle.rc_runs.specs.TreeOf.{instructions_of}
use Rattle.rc_runs.specs.LastRow.{rows_then}
use Rattle.rc_runs.specs.ValueGrammar.{Nested, SpellsNested}
use Rattle.rc_build.specs.declared.builder.Marks.{Marks}
use Rattle.rc_build.specs.declared.handlers.MayThrow.{MayThrow}
use Rattle.rc_build.specs.declared.values.Around.{Around}
use Rattle.rc_build.specs.declared.value_steps.Step.{Step}
use Rattle.rc_build.specs.declared.value_steps.ValueRow.{ValueRow}
use Rattle.rc_build.specs.declared.value_terminals.ValueTerminal.{ValueTerminal}
use Rattle.rc_build.specs.BlockFacts.{BlockIs, IsValueReferenced}
use Rattle.rc_build.specs.inside.Marks.{Marked, MarksBlocks}
use Rattle.rc_build.specs.inside.Task.{Progress}
use Rattle.rc_build.specs.inside.Throws.{may_throw}
use Rattle.rc_build.specs.inside.ValueKinds.{terminal_of}
use Rattle.rc_build.specs.inside.ValueRows.{HasRows}
use Rattle.rc_build.specs.inside.ValueSteps.{step_behind}
use Rattle.rc_build.specs.inside.ShortArms.{AreShort, alternate_of, arm_blocks}
use Rattle.rc_build.specs.inside.Values.{CanBuildValue}

-- the value terminal of a block is the row
pub record IsRow (hir : HirFunction) (env : Environment) (around : Around) (key : BlockId) (row : ValueRow)
    (used : List BlockId) : Type 0 where
  pub block : Block
  pub nested : Nested
  pub nested_used : List BlockId
  pub usable : usable_block hir key ≡ Some block
  pub spelled : SpellsNested hir env around.handler block.terminal nested nested_used
  pub used_is : used ≡ key ∷ nested_used
  pub rows : row.rows
      ≡ instructions_of (rows_then block.rows (Row nested.id (Some nested.answer) nested.value around.span NoRows))
  pub next : row.next ≡ nested.fallthrough
  pub answer : row.answer ≡ Some nested.answer
  pub left : alternate_of row.short ≡ nested.short
  pub short : AreShort hir row.short
  pub valued : IsValueReferenced hir row.next

-- the rows of a block that may throw, under the handler, are the row, and the value goes on at the continuation
pub record IsThrowing (hir : HirFunction) (handler : Option BlockId) (key : BlockId) (row : ValueRow)
    (used : List BlockId) : Type 0 where
  pub block : Block
  pub named : Option BlockId
  pub id : EvaluationOrder
  pub span : Option Span
  pub usable : usable_block hir key ≡ Some block
  pub throws : block.terminal ≡ terminals.MaybeThrow row.next named id span
  pub current : is_current named handler ≡ true
  pub goes_on : is_empty_goto (block_at hir row.next) ≡ false
  pub used_is : used ≡ key ∷ []
  pub rows : row.rows ≡ instructions_of (rows_then block.rows NoRows)
  pub answer : row.answer ≡ None
  pub short : row.short ≡ None
  pub valued : IsValueReferenced hir row.next

-- the row is that of a block after which a value goes on
pub data IsStep (hir : HirFunction) (env : Environment) (around : Around) (key : BlockId) (row : ValueRow)
    (used : List BlockId) : Type 0 where
  nested_row : IsRow hir env around key row used → IsStep hir env around key row used
  throwing_row : IsThrowing hir around.handler key row used → IsStep hir env around key row used

-- the row of a block is built as `Is` says; the block where the value goes on, and the short arm, are pending
pub record RowBuilt (hir : HirFunction) (Is : ValueRow → List BlockId → Type 0) (key : BlockId) (row : ValueRow)
    (old new : Progress) : Type 0 where
  pub newly : List BlockId
  pub is : Is row newly
  pub marking : MarksBlocks hir (key ∷ []) (row.next ∷ arm_blocks row.short) old.marks new.marks newly
  pub kept : new.out ≡ old.out

-- the rows of a block that ends in the value terminal are made, and the block is marked
pub record RowBegun (hir : HirFunction) (key : BlockId) (terminal : ValueTerminal) (made : List ReactiveInstruction)
    (old new : Progress) : Type 0 where
  pub block : BasicBlock
  pub found : basic_block hir key ≡ Some block
  pub own : same_id block.id key ≡ true
  pub rows : HasRows hir block.instructions made
  pub set : is_unset terminal.id ≡ false
  pub marked : Marked hir key block.terminal old new

-- the value terminal of a block can be built as a row
pub record CanBuildRow (hir : HirFunction) (marks : Marks) (key : BlockId) (terminal : ValueTerminal) : Type 0 where
  pub can : CanBuildValue hir marks key
  pub here : BlockIs hir key (λ block. block.terminal ≡ terminal_of terminal)

-- the rows of a block that may throw can be built: the value goes on at its continuation
pub record CanBuildThrowing (hir : HirFunction) (marks : Marks) (key : BlockId) (throw : MayThrow) : Type 0 where
  pub can : CanBuildValue hir marks key
  pub here : BlockIs hir key (λ block. may_throw block.terminal ≡ Some throw)
  pub goes_on : is_empty_goto (block_at hir throw.continuation) ≡ false

-- the rows of a block after which a value goes on can be built
pub record CanBuildStep (hir : HirFunction) (marks : Marks) (key : BlockId) (step : Step) : Type 0 where
  pub can : CanBuildValue hir marks key
  pub here : BlockIs hir key (λ block. step_behind hir block.terminal ≡ Some step)
