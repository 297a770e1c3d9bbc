-- What the builder's functions start from: which blocks are used, which are pending, and the frames around.
use Rattle.std.specs.Prelude.{◌≡◌, ◌≤◌, ℕ, Bool, true, false, List, [], ◌∷◌, ◌++◌, Option, Some, None, IsSome}
use Rattle.std.specs.Prelude.{if◌then◌else◌, position}
use Rattle.std.specs.List.{filter_map, flat_map}
use Rattle.std.specs.Map.{keys_of}
use Rattle.rc_names.specs.Numbers.{BlockId, same_id, is_among, times}
use Rattle.rc_hir.specs.Model.{Terminal, HirFunction}
use Rattle.rc_runs.specs.declared.frames.Frame.{Frame}
use Rattle.rc_runs.specs.declared.frames.Frame.TheVariants as frame_kinds
use Rattle.rc_build.specs.declared.builder.Marks.{Marks}
use Rattle.rc_runs.specs.Graph.{basic_block}
use Rattle.rc_runs.specs.Spelled.{AreSound, scope_at}
use Rattle.rc_build.specs.References.{Test, InCase, ScopeFallthrough, blocks_as, referenced_blocks, fallthrough_of}
use Rattle.rc_build.specs.TerminalForms.{Jumps}
use Rattle.rc_build.specs.BlockFacts.{BlockIs, HasTry}
use Rattle.rc_build.specs.RuleFacts.{IsLostJump}
use Rattle.rc_build.specs.inside.LiveBlocks.{TellBlocks}

-- the position of a block in the graph
abbrev pub place_of : HirFunction → BlockId → Option ℕ
place_of hir key = position (same_id key) (keys_of hir.body.blocks)

-- there is a bit for each block of the graph, at its position, which is set where the block is one of these
abbrev pub TellUsed : HirFunction → List Bool → List BlockId → Type 0
TellUsed hir bits used = TellBlocks hir.body.blocks bits (is_among used)

-- the used blocks are sound and blocks of the graph, which the bits tell, and the used scopes are theirs
pub record AreMarked (hir : HirFunction) (marks : Marks) : Type 0 where
  pub sound : AreSound hir marks.used
  pub known : (key : BlockId) → is_among marks.used key ≡ true → IsSome (basic_block hir key)
  pub told : TellUsed hir marks.bits marks.used
  pub scopes : marks.scopes ≡ filter_map (scope_at hir) marks.used

-- the references of the graph's entry and of these blocks
abbrev pub references_of : HirFunction → List BlockId → List BlockId
references_of hir used = hir.body.entry ∷ flat_map
    (λ pair. if is_among used pair.0 then referenced_blocks pair.1.terminal else []) hir.body.blocks

-- the entry and the used blocks refer to each pending or used block at least as often as it is listed
abbrev pub AreReferenced : HirFunction → List BlockId → List BlockId → Type 0
AreReferenced hir used pending = (key : BlockId) → times key (pending ++ used) ≤ times key (references_of hir used)

-- the blocks of a frame that are used after the parts inside it
abbrev pub pending_at : Frame → List BlockId
pending_at (frame_kinds.Statement block) = block ∷ []
pending_at (frame_kinds.Switch block) = block ∷ []
pending_at (frame_kinds.Case block) = []
pending_at (frame_kinds.Scope block) = block ∷ []
pending_at (frame_kinds.Loop block again) = block ∷ []
pending_at frame_kinds.Mark = []

-- the blocks of a frame that are used before the parts inside it: that of a later case, and a continue block
abbrev pub used_at : Frame → List BlockId
used_at (frame_kinds.Case block) = block ∷ []
used_at (frame_kinds.Loop block again) = again ∷ []
used_at _ = []

-- the blocks of frames that are used after the parts inside them
abbrev pub pending_blocks : List Frame → List BlockId
pending_blocks frames = flat_map pending_at frames

-- the blocks of frames that are used before the parts inside them
abbrev pub used_blocks : List Frame → List BlockId
used_blocks frames = flat_map used_at frames

-- the frame is that of a statement with this terminal
abbrev pub IsFrameOf : Terminal → Frame → Type 0
IsFrameOf terminal (frame_kinds.Statement block) = fallthrough_of terminal ≡ Some block
IsFrameOf terminal (frame_kinds.Switch block) = fallthrough_of terminal ≡ Some block
IsFrameOf terminal (frame_kinds.Case block) = is_among (blocks_as InCase terminal) block ≡ true
IsFrameOf terminal (frame_kinds.Scope block) = is_among (blocks_as ScopeFallthrough terminal) block ≡ true
IsFrameOf terminal (frame_kinds.Loop block again) =
    (fallthrough_of terminal ≡ Some block) × (is_among (blocks_as Test terminal) again ≡ true)
IsFrameOf terminal frame_kinds.Mark = Unit {0}

-- the frame is that of a block of which P holds
pub record HasOwner (hir : HirFunction) (P : BlockId → Type 0) (frame : Frame) : Type 0 where
  pub owner : BlockId
  pub chosen : P owner
  pub owns : BlockIs hir owner (λ block. IsFrameOf block.terminal frame)

-- each frame is that of a block of which P holds
abbrev pub AreOwned : HirFunction → (BlockId → Type 0) → List Frame → Type 0
AreOwned hir P [] = Unit {0}
AreOwned hir P (frame ∷ frames) = HasOwner hir P frame × AreOwned hir P frames

-- the block is used
abbrev pub IsUsed : Marks → BlockId → Type 0
IsUsed marks key = is_among marks.used key ≡ true

-- the block is used, and another one than b
abbrev pub IsUsedApart : Marks → BlockId → BlockId → Type 0
IsUsedApart marks b key = IsUsed marks key × (same_id key b ≡ false)

-- these blocks are used
abbrev pub AreUsed : Marks → List BlockId → Type 0
AreUsed marks blocks = (key : BlockId) → is_among blocks key ≡ true → IsUsed marks key

-- where there is a handler, it is that of a `Try` of the graph
abbrev pub IsHandler : HirFunction → Option BlockId → Type 0
IsHandler hir None = Unit {0}
IsHandler hir (Some handler) = HasTry hir

-- a list can be built under the handler from the block on: a used block refers to it, and the frames are those of used
-- blocks, as far as their statements have come
pub record CanBuildList (hir : HirFunction) (marks : Marks) (handler : Option BlockId) (frames : List Frame)
    (key : BlockId) : Type 0 where
  pub marked : AreMarked hir marks
  pub handled : IsHandler hir handler
  pub referenced : AreReferenced hir marks.used (key ∷ pending_blocks frames)
  pub used_before : AreUsed marks (used_blocks frames)
  pub owned : AreOwned hir (IsUsed marks) frames

-- the statement of a terminal can be built under the handler: its block is used, the blocks that it refers to are
-- pending, and the frames are those of other blocks
pub record CanBuildTerminal (hir : HirFunction) (marks : Marks) (handler : Option BlockId) (frames : List Frame)
    (key : BlockId) (terminal : Terminal) : Type 0 where
  pub marked : AreMarked hir marks
  pub handled : IsHandler hir handler
  pub used : IsUsed marks key
  pub here : BlockIs hir key (λ block. block.terminal ≡ terminal)
  pub referenced : AreReferenced hir marks.used (referenced_blocks terminal ++ pending_blocks frames)
  pub used_before : AreUsed marks (used_blocks frames)
  pub owned : AreOwned hir (IsUsedApart marks key) frames

-- a break of that block's terminal to the target can be built, or is a fault of the block
pub record CanBreak (hir : HirFunction) (marks : Marks) (frames : List Frame) (key : BlockId) (terminal : Terminal)
    (target : BlockId) : Type 0 where
  pub handler : Option BlockId
  pub can : CanBuildTerminal hir marks handler frames key terminal
  pub jumps : Jumps terminal target
  pub lost : IsLostJump hir key terminal
