-- What holds of a block of a graph: what it is, and as what the graph refers to it.
use Rattle.std.specs.Prelude.{◌≡◌, ℕ, true, false, [], Some}
use Rattle.rc_names.specs.Numbers.{BlockId, same_id, is_among, times}
use Rattle.rc_hir.specs.Model.{BasicBlock, HirFunction}
use Rattle.rc_runs.specs.Graph.{basic_block}
use Rattle.rc_build.specs.References.{Role, references, blocks_as, framed_blocks, value_references}
use Rattle.rc_build.specs.TerminalForms.{is_try, is_goto}

-- the block under a key, of which P holds
pub record BlockIs (hir : HirFunction) (key : BlockId) (P : BasicBlock → Type 0) : Type 0 where
  pub block : BasicBlock
  pub found : basic_block hir key ≡ Some block
  pub holds : P block

-- how many references of the graph are to a block
abbrev pub times_referenced : HirFunction → BlockId → ℕ
times_referenced hir key = times key (references hir)

-- a block other than b refers to the block by a field `test`, `init`, `update` or `fallthrough`, or as a case's
-- block
pub record IsFramedApart (hir : HirFunction) (b key : BlockId) : Type 0 where
  pub other : BlockId
  pub apart : same_id other b ≡ false
  pub frames : BlockIs hir other (λ block. is_among (framed_blocks block.terminal) key ≡ true)

-- a block of the graph refers to the block in that role
abbrev pub IsReferredAs : Role → HirFunction → BlockId → Type 0
IsReferredAs role hir key = (owner : BlockId)
    × BlockIs hir owner (λ block. is_among (blocks_as role block.terminal) key ≡ true)

-- a block of the graph ends in a `Try`
abbrev pub HasTry : HirFunction → Type 0
HasTry hir = (owner : BlockId) × BlockIs hir owner (λ block. is_try block.terminal ≡ true)

-- a block of the graph refers to the block as to a value
abbrev pub IsValueReferenced : HirFunction → BlockId → Type 0
IsValueReferenced hir key = (owner : BlockId)
    × BlockIs hir owner (λ block. is_among (value_references block.terminal) key ≡ true)

-- a block of which P holds, and to which a block of the graph refers as to a value
pub record ValueBlockIs (hir : HirFunction) (key : BlockId) (P : BasicBlock → Type 0) : Type 0 where
  pub referenced : IsValueReferenced hir key
  pub here : BlockIs hir key P

-- the block under the key has no rows, and goes on at another one
abbrev pub IsEmptyGoto : HirFunction → BlockId → Type 0
IsEmptyGoto hir key = BlockIs hir key (λ block. (block.instructions ≡ []) × (is_goto block.terminal ≡ true))
