-- Where the walk can go: from a block to its terminal, to the next block of its list, and into the parts of its
-- statement, inside a frame of each of the five kinds.
use Rattle.std.proofs.Common.{◌≡◌, ◌≤◌, true, false, List, [], ◌∷◌, ◌++◌, Option, Some, None, refl, sym, subst, arith, inl, inr}
use Rattle.std.specs.Prelude.{◌⊎◌}
use Rattle.rc_names.specs.Numbers.{BlockId, is_among, times}
use Rattle.rc_hir.specs.Model.{Terminal, BasicBlock, HirFunction}
use Rattle.rc_runs.specs.Graph.{basic_block}
use Rattle.rc_runs.specs.declared.frames.Frame.{Frame}
use Rattle.rc_runs.specs.declared.frames.Frame.TheVariants as frame_kinds
use Rattle.rc_build.specs.declared.builder.Marks.{Marks}
use Rattle.rc_build.specs.References.{InCase, blocks_as, referenced_blocks}
use Rattle.rc_build.specs.BlockFacts.{BlockIs}
use Rattle.rc_build.specs.inside.CanBuild.{AreReferenced, AreUsed, CanBuildList, CanBuildTerminal, IsUsed, IsUsedApart, IsFrameOf}
use Rattle.rc_build.specs.inside.CanBuild.{pending_at, used_at, pending_blocks, used_blocks}
use Rattle.rc_build.specs.inside.Marks.{MarksBlocks}
use Rattle.rc_build.specs.inside.Depths.{frames_inside}
use Rattle.rc_build.proofs.MarksLemmas.{referenced_fewer, times_append, among_push, among_front, among_parts, among_same}
use Rattle.rc_build.proofs.MarksLemmas.{alone_same}
use Rattle.rc_build.proofs.OwnersLemmas.{owned_weaker}
use Rattle.rc_build.proofs.BuiltLemmas.{marking_none, marking_drop}
use Rattle.rc_build.proofs.TakenLemmas.{newly_used, used_apart}

-- nothing is to be used before the parts of an `If`, a `Switch` or a scope
pub none_used : (marks : Marks) → AreUsed marks []
none_used marks key h = let bad : ⊥ = cc in absurd bad

-- one block is to be used before those of a case or a loop
pub used_alone : (marks : Marks) (block : BlockId) → IsUsed marks block → AreUsed marks (block ∷ [])
used_alone marks block u key h = among_same marks.used block key u (alone_same block key h)

module _ (hir : HirFunction) where
  -- what was used is used
  pub used_more : {before after : List BlockId} {old new : Marks} {blocks : List BlockId}
      → MarksBlocks hir before after old new blocks → (key : BlockId) → IsUsed old key → IsUsed new key
  used_more {old = old} {blocks = blocks} m key h =
      subst (λ z. is_among z key ≡ true) (sym m.used) (among_front old.used blocks key h)

  -- the next block of a list, once those before it are marked
  pub at_next : {old new : Marks} {handler : Option BlockId} {frames : List Frame} {key next : BlockId}
      {blocks : List BlockId}
      → CanBuildList hir old handler frames key → MarksBlocks hir (key ∷ []) (next ∷ []) old new blocks
      → CanBuildList hir new handler frames next
  at_next {old = old} {new = new} {frames = frames} a m = record {
    marked = m.marked;
    handled = a.handled;
    referenced = m.referenced (pending_blocks frames) a.referenced;
    used_before = λ key h. used_more m key (a.used_before key h);
    owned = owned_weaker hir (IsUsed old) (IsUsed new) frames (used_more m) a.owned;
  }

  -- a block can be built under no handler and in no frame
  pub list_alone : {marks : Marks} {handler : Option BlockId} {frames : List Frame} {key : BlockId}
      → CanBuildList hir marks handler frames key → CanBuildList hir marks None [] key
  list_alone {marks = marks} {frames = frames} {key = key} a = record {
    marked = a.marked;
    handled = tt;
    referenced = referenced_fewer hir marks.used (key ∷ []) (key ∷ pending_blocks frames) (λ other. omega arith) a.referenced;
    used_before = none_used marks;
    owned = tt;
  }

  -- a block's terminal, once the block is marked
  pub at_terminal : {old new : Marks} {handler : Option BlockId} {frames : List Frame} {key : BlockId}
      {block : BasicBlock}
      → CanBuildList hir old handler frames key → basic_block hir key ≡ Some block
      → MarksBlocks hir (key ∷ []) (referenced_blocks block.terminal) old new (key ∷ [])
      → CanBuildTerminal hir new handler frames key block.terminal
  at_terminal {old = old} {new = new} {frames = frames} {key = key} {block = block} a found m = record {
    marked = m.marked;
    handled = a.handled;
    used = subst (λ z. is_among z key ≡ true) (sym m.used) (among_push old.used key);
    here = record { block = block; found = found; holds = refl };
    referenced = m.referenced (pending_blocks frames) a.referenced;
    used_before = λ other h. used_more m other (a.used_before other h);
    owned = owned_weaker hir (IsUsed old) (IsUsedApart new key) frames
        (λ other h. (used_more m other h, used_apart old.used key other (newly_used m) h)) a.owned;
  }

  -- a list can be built inside one more frame of a used block, where what is to be used before is
  pub framed_list : {marks : Marks} {handler : Option BlockId} {frames : List Frame} {key part : BlockId}
      {terminal : Terminal} (frame : Frame)
      → IsUsed marks key → BlockIs hir key (λ block. block.terminal ≡ terminal) → IsFrameOf terminal frame
      → AreUsed marks (used_at frame) → AreReferenced hir marks.used (part ∷ pending_blocks (frame ∷ frames))
      → CanBuildList hir marks handler frames part → CanBuildList hir marks handler (frame ∷ frames) part
  framed_list {marks = marks} {frames = frames} {key = key} frame u here f w n a = record {
    marked = a.marked;
    handled = a.handled;
    referenced = n;
    used_before = λ other h. before other (among_parts (used_at frame) (used_blocks frames) other h);
    owned = (
      record {
        owner = key;
        chosen = u;
        owns = record {
          block = here.block;
          found = here.found;
          holds = subst (λ z. IsFrameOf z frame) (sym here.holds) f;
        };
      },
      a.owned,
    );
  }
    where
      before : (other : BlockId)
          → (is_among (used_at frame) other ≡ true) ⊎ (is_among (used_blocks frames) other ≡ true)
          → IsUsed marks other
      before other (inl h) = w other h
      before other (inr h) = a.used_before other h

  -- a part in the context of the list itself
  pub at_arm : {old new : Marks} {handler : Option BlockId} {frames : List Frame} {key part : BlockId}
      {terminal : Terminal}
      {after blocks : List BlockId} → CanBuildTerminal hir old handler frames key terminal
      → MarksBlocks hir (referenced_blocks terminal) (part ∷ after) old new blocks
      → CanBuildList hir new handler frames part
  at_arm {old = old} {new = new} {frames = frames} {key = key} {part = part} {after = after} a m = record {
    marked = m.marked;
    handled = a.handled;
    referenced = referenced_fewer hir new.used (part ∷ pending_blocks frames) (part ∷ after ++ pending_blocks frames)
        (λ other. omega (arith, times_append other after (pending_blocks frames)))
        (m.referenced (pending_blocks frames) a.referenced);
    used_before = λ other h. used_more m other (a.used_before other h);
    owned = owned_weaker hir (IsUsedApart old key) (IsUsed new) frames (λ other h. used_more m other h.0) a.owned;
  }

  -- a part of a statement can be built inside its frame, of whichever kind, once what is to be used before it is
  pub at_part : {old new : Marks} {handler : Option BlockId} {frames : List Frame} {key part : BlockId}
      {terminal : Terminal}
      {blocks : List BlockId} (frame : Frame) (at : Option BlockId)
      → CanBuildTerminal hir old handler frames key terminal
      → IsFrameOf terminal frame → AreUsed new (used_at frame)
      → MarksBlocks hir (referenced_blocks terminal) (part ∷ pending_at frame) old new blocks
      → CanBuildList hir new handler (frames_inside at frame frames) part
  at_part {frames = frames} {key = key} {part = part} frame None a f w m = at_arm a m
  at_part {frames = frames} {key = key} {part = part} frame (Some fallthrough) a f w m =
      framed_list frame (used_more m key a.used) a.here f w (m.referenced (pending_blocks frames) a.referenced)
      (at_arm a m)

  -- so can the first part of a statement
  pub at_first_part : {marks : Marks} {handler : Option BlockId} {frames : List Frame} {key part : BlockId}
      {terminal : Terminal} (frame : Frame)
      (at : Option BlockId) → CanBuildTerminal hir marks handler frames key terminal → IsFrameOf terminal frame
      → AreUsed marks (used_at frame)
      → ((other : BlockId) → times other (part ∷ pending_at frame) ≤ times other (referenced_blocks terminal))
      → CanBuildList hir marks handler (frames_inside at frame frames) part
  at_first_part {marks = marks} {terminal = terminal} frame at a f w n =
      at_part frame at a f w (marking_drop hir n (marking_none hir (referenced_blocks terminal) marks a.marked))

  -- and a case inside the frame of a later one, once that one's block is used
  pub at_case : {old new : Marks} {handler : Option BlockId} {outer frames : List Frame} {key block later : BlockId}
      {terminal : Terminal}
      {before after blocks : List BlockId} → CanBuildTerminal hir old handler outer key terminal
      → MarksBlocks hir before after old new blocks → is_among (blocks_as InCase terminal) later ≡ true
      → IsUsed new later → CanBuildList hir new handler frames block
      → CanBuildList hir new handler (frame_kinds.Case later ∷ frames) block
  at_case {new = new} {key = key} {later = later} a m c u inner =
      framed_list (frame_kinds.Case later) (used_more m key a.used) a.here c (used_alone new later u) inner.referenced inner
