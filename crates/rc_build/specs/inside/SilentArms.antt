-- Silent arms as the builder finds them: chains of blocks, and the blocks of a value that is one besides.
use Rattle.std.specs.Prelude.{◌≡◌, ◌≤◌, true, false, List, [], ◌∷◌, ◌++◌, Option, Some, None, ◌⊎◌}
use Rattle.std.specs.List.{list_any}
use Rattle.std.specs.Option.{option_to_list}
use Rattle.rc_names.specs.Numbers.{BlockId, InstructionId, is_among}
use Rattle.rc_hir.specs.Model.{Instruction, HirFunction, Environment}
use Rattle.rc_runs.specs.Graph.{Block, rows_of, usable_block}
use Rattle.rc_runs.specs.Silent.{is_unset}
use Rattle.rc_runs.specs.Spelled.{AreSound}
use Rattle.rc_runs.specs.ShortArms.{SpellsSilentArm, are_silent}
use Rattle.rc_build.specs.declared.builder.Builder.{Builder}
use Rattle.rc_build.specs.declared.builder.Marks.{Marks}
use Rattle.rc_build.specs.declared.builder.Site.{Site}
use Rattle.rc_build.specs.References.{Arm}
use Rattle.rc_build.specs.BlockFacts.{BlockIs, IsReferredAs, times_referenced}
use Rattle.rc_build.specs.inside.CanBuild.{AreMarked, AreReferenced, IsUsed}
use Rattle.rc_build.specs.inside.Marks.{MarksBlocks}
use Rattle.rc_build.specs.inside.Setting.{setting_of}
use Rattle.rc_build.specs.inside.Task.{Progress, progress_of}
use Rattle.rc_build.specs.inside.ValueKinds.{value_terminal}
use Rattle.rc_build.specs.inside.ValueRows.{AreListed}

-- the numbers are those of silent rows whose ids are set
pub record HasSilentRows (hir : HirFunction) (env : Environment) (numbers : List InstructionId) : Type 0 where
  pub rows : List Instruction
  pub filled : rows_of hir.instructions numbers ≡ Some rows
  pub set : list_any (λ row. is_unset row.id) rows ≡ false
  pub silent : are_silent env rows ≡ true

-- the block under the key lists these numbers, and a `Branch` leads to the arm
pub record AreArmRows (hir : HirFunction) (arm key : BlockId) (numbers : List InstructionId) : Type 0 where
  pub listed : AreListed hir key numbers
  pub arm_is : IsReferredAs Arm hir arm
  pub there : BlockIs hir arm (λ block. Unit {0})

-- a silent arm can be built from the block on: the block is pending, and a `Branch` leads to the arm, whose first block
-- this is or which is used
pub record CanBuildArm (hir : HirFunction) (marks : Marks) (arm key : BlockId) : Type 0 where
  pub marked : AreMarked hir marks
  pub referenced : AreReferenced hir marks.used (key ∷ [])
  pub arm_is : IsReferredAs Arm hir arm
  pub there : (key ≡ arm) ⊎ IsUsed marks arm

-- the silent arm from a block on is built under the handler, and its blocks are marked
pub record ArmBuilt (hir : HirFunction) (env : Environment) (handler : Option BlockId) (next key : BlockId)
    (old new : Progress) : Type 0 where
  pub newly : List BlockId
  pub spelled : SpellsSilentArm hir env handler next key newly
  pub marking : MarksBlocks hir (key ∷ []) [] old.marks new.marks newly
  pub kept : new.out ≡ old.out

-- no silent arm from the block on uses blocks that are sound after the used ones
abbrev pub HasNoArm : HirFunction → Environment → Option BlockId → BlockId → BlockId → List BlockId → Type 0
HasNoArm hir env handler next key used = (blocks : List BlockId) → SpellsSilentArm hir env handler next key blocks →
    AreSound hir (used ++ blocks) → ⊥

-- what is left of a silent arm after one of its blocks: nothing, or the arm from a block on
abbrev pub SpellsArmRest : HirFunction → Environment → Option BlockId → BlockId → Option BlockId → List BlockId → Type 0
SpellsArmRest hir env handler next None used = used ≡ []
SpellsArmRest hir env handler next (Some key) used = SpellsSilentArm hir env handler next key used

-- of the silent arm from a block on, some blocks are marked, and the rest is left
pub record ArmPrefix (hir : HirFunction) (env : Environment) (handler : Option BlockId) (next key : BlockId)
    (rest : Option BlockId) (old new : Progress) : Type 0 where
  pub newly : List BlockId
  pub marking : MarksBlocks hir (key ∷ []) (option_to_list rest) old.marks new.marks newly
  pub onward : (used : List BlockId) → SpellsArmRest hir env handler next rest used →
      SpellsSilentArm hir env handler next key (newly ++ used)
  pub only : (all : List BlockId) → SpellsSilentArm hir env handler next key all → (later : List BlockId)
      × SpellsArmRest hir env handler next rest later × (all ≡ newly ++ later)
  pub kept : new.out ≡ old.out

-- the block of a silent arm is marked, and the rest of the arm is left
pub record ArmBlockBuilt (hir : HirFunction) (env : Environment) (handler : Option BlockId) (next key : BlockId)
    (rest : Option BlockId) (old new : Progress) : Type 0 where
  pub prefix : ArmPrefix hir env handler next key rest old new
  pub newly_is : prefix.newly ≡ key ∷ []

-- how far the loop over the blocks of a silent arm has come
pub record ArmSoFar (old now : Builder) (handler : Option BlockId) (next arm : BlockId) (at : Option BlockId) : Type 0
  where
    pub prefix : ArmPrefix old.hir.now old.env.now handler next arm at (progress_of old) (progress_of now)
    pub there : (key : BlockId) → at ≡ Some key → (key ≡ arm) ⊎ IsUsed now.marks arm
    pub setting : (site : Site) → setting_of now site ≡ setting_of old site

-- the block of a value may be one of a silent arm: its rows are silent, and it ends in no value terminal
pub record IsArmBlock (hir : HirFunction) (env : Environment) (key : BlockId) : Type 0 where
  pub block : Block
  pub usable : usable_block hir key ≡ Some block
  pub silent : are_silent env block.rows ≡ true
  pub plain : value_terminal block.terminal ≡ None

abbrev pub AreArmBlocks : HirFunction → Environment → List BlockId → Type 0
AreArmBlocks hir env [] = Unit {0}
AreArmBlocks hir env (key ∷ keys) = IsArmBlock hir env key × AreArmBlocks hir env keys

-- the block can be looked at: a block of the graph refers to it, and a `Branch` leads to the arm
pub record CanCheckBlock (hir : HirFunction) (arm key : BlockId) : Type 0 where
  pub referenced : 1 ≤ times_referenced hir key
  pub arm_is : IsReferredAs Arm hir arm
  pub there : BlockIs hir arm (λ block. Unit {0})

-- the used blocks can be looked at
pub record CanCheckSilent (hir : HirFunction) (marks : Marks) (arm : BlockId) : Type 0 where
  pub referenced : (key : BlockId) → is_among marks.used key ≡ true → 1 ≤ times_referenced hir key
  pub arm_is : IsReferredAs Arm hir arm
  pub there : BlockIs hir arm (λ block. Unit {0})
