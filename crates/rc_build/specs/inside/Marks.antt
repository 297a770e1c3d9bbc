-- The marks: the used blocks, the scopes that they open, and the blocks that are pending.
use Rattle.std.specs.Prelude.{◌≡◌, ℕ, Bool, true, false, List, [], ◌∷◌, ◌++◌, Option, Some, None, not, slice_set}
use Rattle.std.specs.List.{list_any}
use Rattle.rc_names.specs.Numbers.{BlockId, ScopeId, same_id}
use Rattle.rc_hir.specs.Model.{BasicBlock, Terminal, HirFunction}
use Rattle.rc_runs.specs.declared.frames.Frame.{Frame}
use Rattle.rc_runs.specs.Frames.{is_jump_target}
use Rattle.rc_runs.specs.Graph.{Block, basic_block, usable_block}
use Rattle.rc_runs.specs.Spelled.{AreSound}
use Rattle.rc_build.specs.declared.builder.Marks.{Marks}
use Rattle.rc_build.specs.References.{referenced_blocks}
use Rattle.rc_build.specs.inside.CanBuild.{AreMarked, AreReferenced, CanBuildList}
use Rattle.rc_build.specs.inside.Rows.{HasIds}
use Rattle.rc_build.specs.inside.Task.{Progress}

-- the marks with one more used block, which is at that position of the graph
abbrev pub with_used : BlockId → ℕ → Marks → Marks
with_used key place marks = record {
  used = marks.used ++ key ∷ [];
  bits = slice_set marks.bits place true;
  scopes = marks.scopes;
}

-- these blocks are marked; of the references that were pending `before`, those `after` are left
pub record MarksBlocks (hir : HirFunction) (before after : List BlockId) (old new : Marks)
    (blocks : List BlockId) : Type 0 where
  pub used : new.used ≡ old.used ++ blocks
  pub marked : AreMarked hir new
  pub referenced : (pending : List BlockId) → AreReferenced hir old.used (before ++ pending) →
      AreReferenced hir new.used (after ++ pending)

-- the block can be marked: its rows are there, and a block refers to it
pub record CanMark (hir : HirFunction) (marks : Marks) (key : BlockId) (block : BasicBlock) : Type 0 where
  pub can : CanBuildList hir marks None [] key
  pub found : basic_block hir key ≡ Some block
  pub ids : HasIds hir block

-- the block is marked, and the blocks that its terminal refers to are pending
pub record Marked (hir : HirFunction) (key : BlockId) (terminal : Terminal) (old new : Progress) : Type 0 where
  pub marking : MarksBlocks hir (key ∷ []) (referenced_blocks terminal) old.marks new.marks (key ∷ [])
  pub kept : new.out ≡ old.out

-- the scope isn't among these, or there is none
abbrev pub is_fresh_scope : List ScopeId → Option ScopeId → Bool
is_fresh_scope scopes None = true
is_fresh_scope scopes (Some scope) = not (list_any (same_id scope) scopes)

-- no tree may use the block there
abbrev pub IsUnusable : HirFunction → List Frame → BlockId → Marks → Type 0
IsUnusable hir frames key marks = (block : Block) → usable_block hir key ≡ Some block →
    is_jump_target frames key ≡ false → AreSound hir (marks.used ++ key ∷ []) → ⊥
