-- Frames: which blocks a jump can name, where falling off leads, and how a break or a continue is resolved. The
-- innermost frame is the first. Each switch puts a mark outside the frames of its cases, whether it has a frame of its
-- own or not: no jump names a mark, and it says that an unlabeled break would leave the switch.
use Rattle.std.specs.Prelude.{Bool, true, false, List, [], ◌∷◌, Option, Some, None, if◌then◌else◌, ◌||◌, ◌&&◌}
use Rattle.rc_names.specs.Numbers.{BlockId, same_id}
use Rattle.rc_tree.specs.Model.{ReactiveTerminalTargetKind}
use Rattle.rc_tree.specs.declared.kind.ReactiveTerminalTargetKind.TheVariants.{Implicit, Labeled, Unlabeled}
use Rattle.rc_runs.specs.declared.frames.Frame.{Frame}
use Rattle.rc_runs.specs.declared.frames.Frame.TheVariants as frame_kinds
use Rattle.rc_runs.specs.declared.frames.BreakResult.{BreakResult}
use Rattle.rc_runs.specs.declared.frames.BreakResult.TheVariants.{NoFrame, LeavesScope, LeavesCase, FallsOff, Breaks}
use Rattle.rc_runs.specs.declared.frames.ContinueResult.{ContinueResult}
use Rattle.rc_runs.specs.declared.frames.ContinueResult.TheVariants.{NoLoop, Continues}

-- the block that a break out of the frame names; a mark has none
abbrev pub break_block : Frame → Option BlockId
break_block (frame_kinds.Statement block) = Some block
break_block (frame_kinds.Switch block) = Some block
break_block (frame_kinds.Case block) = Some block
break_block (frame_kinds.Scope block) = Some block
break_block (frame_kinds.Loop block continue_block) = Some block
break_block frame_kinds.Mark = None

-- the block that a continue of the frame names
abbrev pub continue_block : Frame → Option BlockId
continue_block (frame_kinds.Loop block again) = Some again
continue_block _ = None

-- the block that falling off a part of the frame reaches; a mark leaves that to the frame around it
abbrev pub fall_block : Frame → Option BlockId
fall_block (frame_kinds.Loop block again) = Some again
fall_block frame = break_block frame

-- there is a block, and it is that one
abbrev pub is_block : Option BlockId → BlockId → Bool
is_block None key = false
is_block (Some block) key = same_id block key

-- a jump can name the block at this frame
abbrev pub is_jump_target_at : Frame → BlockId → Bool
is_jump_target_at frame key = is_block (break_block frame) key || is_block (continue_block frame) key

-- the block is the break block or the continue block of a frame
abbrev pub is_jump_target : List Frame → BlockId → Bool
is_jump_target [] key = false
is_jump_target (frame ∷ frames) key = if is_jump_target_at frame key then true else is_jump_target frames key

-- an unlabeled continue goes to the innermost such frame
abbrev pub is_loop : Frame → Bool
is_loop (frame_kinds.Loop block continue_block) = true
is_loop _ = false

-- an unlabeled break leaves the innermost such frame: a loop, or the switch of a mark
abbrev pub takes_unlabeled : Frame → Bool
takes_unlabeled (frame_kinds.Loop block continue_block) = true
takes_unlabeled frame_kinds.Mark = true
takes_unlabeled _ = false

-- the frame is a mark
abbrev pub is_mark : Frame → Bool
is_mark frame_kinds.Mark = true
is_mark _ = false

-- a break to this frame; `innermost`: marks alone are inside it, `taken`: a loop or a mark is inside it
abbrev pub resolve_at : Bool → Bool → Frame → BreakResult
resolve_at innermost taken (frame_kinds.Statement block) = Breaks (if innermost then Implicit else Labeled)
resolve_at innermost taken (frame_kinds.Switch block) = Breaks (if innermost then Implicit else Labeled)
resolve_at innermost taken (frame_kinds.Case block) = if innermost then Breaks Implicit else LeavesCase
resolve_at innermost taken (frame_kinds.Scope block) = if innermost then FallsOff else LeavesScope
resolve_at innermost taken (frame_kinds.Loop block continue_block) = Breaks (if taken then Labeled else Unlabeled)
resolve_at innermost taken frame_kinds.Mark = NoFrame

-- the first frame from the inside with that break block decides
abbrev pub resolve_from : Bool → Bool → List Frame → BlockId → BreakResult
resolve_from innermost taken [] key = NoFrame
resolve_from innermost taken (frame ∷ frames) key =
    if is_block (break_block frame) key then resolve_at innermost taken frame
    else resolve_from (innermost && is_mark frame) (taken || takes_unlabeled frame) frames key

-- how a break to the block is resolved
abbrev pub resolve_break : List Frame → BlockId → BreakResult
resolve_break frames key = resolve_from true false frames key

-- the kind of a continue of a loop; `innermost`: marks alone are inside the loop's frame, `in_loop`: a loop is inside
-- it
abbrev pub continue_kind : Bool → Bool → ReactiveTerminalTargetKind
continue_kind innermost in_loop = if in_loop then Labeled else (if innermost then Implicit else Unlabeled)

-- a continue of this frame, which is a loop; it names the loop by its break block
abbrev pub continue_at : Bool → Bool → Frame → ContinueResult
continue_at innermost in_loop (frame_kinds.Loop block again) = Continues block (continue_kind innermost in_loop)
continue_at innermost in_loop _ = NoLoop

-- the first loop from the inside with that continue block decides
abbrev pub continue_from : Bool → Bool → List Frame → BlockId → ContinueResult
continue_from innermost in_loop [] key = NoLoop
continue_from innermost in_loop (frame ∷ frames) key =
    if is_block (continue_block frame) key then continue_at innermost in_loop frame
    else continue_from (innermost && is_mark frame) (in_loop || is_loop frame) frames key

-- how a continue to the block is resolved
abbrev pub resolve_continue : List Frame → BlockId → ContinueResult
resolve_continue frames key = continue_from true false frames key
