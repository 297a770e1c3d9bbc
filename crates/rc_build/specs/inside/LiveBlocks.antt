-- The blocks that a jump can name, as bits at their positions in the graph.
use Rattle.std.specs.Prelude.{◌≡◌, ℕ, Bool, List, Option, Some, length, position, slice_get}
use Rattle.std.specs.Map.{keys_of}
use Rattle.rc_names.specs.Numbers.{BlockId, same_id}
use Rattle.rc_runs.specs.declared.frames.Frame.{Frame}
use Rattle.rc_runs.specs.Frames.{is_jump_target}
use Rattle.rc_build.specs.declared.frames.live_blocks.LiveBlocks.{LiveBlocks}

-- at the position of each of these blocks there is a bit, which is what is told of the block
abbrev pub TellBlocks : {X : Type 0} → List (BlockId × X) → List Bool → (BlockId → Bool) → Type 0
TellBlocks blocks bits told = (key : BlockId) (place : ℕ) → position (same_id key) (keys_of blocks) ≡ Some place →
    slice_get bits place ≡ Some (told key)

-- the bits are what is told of the blocks of the graph
abbrev pub TellLive : LiveBlocks → (BlockId → Bool) → Type 0
TellLive live told = TellBlocks live.blocks.now live.bits told

-- there is a bit for each block of the graph
abbrev pub HasBits : LiveBlocks → Type 0
HasBits live = length live.bits ≡ length live.blocks.now

-- where there is a block, that says whether the frames outside have it as a jump target
abbrev pub IsLiveOutside : Option BlockId → Bool → List Frame → Type 0
IsLiveOutside block live outer = (key : BlockId) → block ≡ Some key → live ≡ is_jump_target outer key

-- the position of a block in the graph
abbrev pub position_in : LiveBlocks → BlockId → Option ℕ
position_in live key = position (same_id key) (keys_of live.blocks.now)
