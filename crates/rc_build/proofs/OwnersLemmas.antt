-- The frames around a list: their blocks are pending or used, and other blocks opened them.
use Rattle.std.proofs.Common.{◌≡◌, Bool, true, false, List, [], ◌∷◌, ◌++◌, Some, ◌||◌, ◌&&◌, refl, sym, ap, ◌∙◌, subst}
use Rattle.std.proofs.Common.{inl, inr}
use Rattle.std.specs.Prelude.{if◌then◌else◌, ◌⊎◌}
use Rattle.std.proofs.Math.Bool.{or-false}
use Rattle.std.proofs.lemmas.Bool.{or_cases}
use Rattle.rc_names.specs.Numbers.{BlockId, same_id, is_among}
use Rattle.rc_hir.specs.Model.{Terminal, HirFunction}
use Rattle.rc_hir.specs.declared.terminal.Terminal.TheVariants as terminals
use Rattle.rc_runs.specs.declared.frames.Frame.{Frame}
use Rattle.rc_runs.specs.declared.frames.Frame.TheVariants as frame_kinds
use Rattle.rc_runs.specs.declared.frames.BreakResult.{BreakResult}
use Rattle.rc_runs.specs.declared.frames.BreakResult.TheVariants.{NoFrame, LeavesScope, LeavesCase}
use Rattle.rc_runs.specs.Frames.{break_block, is_block, is_jump_target, is_jump_target_at, is_mark, takes_unlabeled}
use Rattle.rc_runs.specs.Frames.{resolve_at, resolve_from}
use Rattle.rc_build.specs.References.{Fallthrough, InCase, ScopeFallthrough, Test, ValueFallthrough, blocks_as}
use Rattle.rc_build.specs.References.{fallthrough_of, fallthroughs, framed_blocks}
use Rattle.rc_build.specs.BlockFacts.{BlockIs, IsReferredAs}
use Rattle.rc_build.specs.inside.CanBuild.{pending_at, used_at, pending_blocks, used_blocks, IsFrameOf, HasOwner}
use Rattle.rc_build.specs.inside.CanBuild.{AreOwned}
use Rattle.rc_names.proofs.NumbersLemmas.{same_id-eq}
use Rattle.rc_build.proofs.MarksLemmas.{among_alone, among_front, among_back, among_same, first_among}

-- the block is the only one of its frame
sole : (block key : BlockId) → (same_id block key || false) ≡ true → same_id block key ≡ true
sole block key e = sym (or-false (same_id block key)) ∙ e

-- a block that is a jump target at a frame is used before or after the parts inside it
pending_or_used_there : (frame : Frame) (key : BlockId) → is_jump_target_at frame key ≡ true
    → (is_among (pending_at frame) key ≡ true) ⊎ (is_among (used_at frame) key ≡ true)
pending_or_used_there (frame_kinds.Statement block) key e = inl (among_alone block key (sole block key e))
pending_or_used_there (frame_kinds.Switch block) key e = inl (among_alone block key (sole block key e))
pending_or_used_there (frame_kinds.Case block) key e = inr (among_alone block key (sole block key e))
pending_or_used_there (frame_kinds.Scope block) key e = inl (among_alone block key (sole block key e))
pending_or_used_there frame_kinds.Mark key e = let bad : ⊥ = cc in absurd bad
pending_or_used_there (frame_kinds.Loop block again) key e = go (or_cases (same_id block key) (same_id again key) e)
  where
    go : (same_id block key ≡ true) ⊎ (same_id again key ≡ true)
        → (is_among (block ∷ []) key ≡ true) ⊎ (is_among (again ∷ []) key ≡ true)
    go (inl h) = inl (among_alone block key h)
    go (inr h) = inr (among_alone again key h)

-- a jump target is pending, or used before the parts inside its frame
pub pending_or_used : (frames : List Frame) (key : BlockId) → is_jump_target frames key ≡ true
    → (is_among (pending_blocks frames) key ≡ true) ⊎ (is_among (used_blocks frames) key ≡ true)
pending_or_used [] key e = let bad : ⊥ = cc in absurd bad
pending_or_used (frame ∷ frames) key e = go (is_jump_target_at frame key) refl e (pending_or_used frames key)
  where
    Found : Type 0
    Found = (is_among (pending_at frame ++ pending_blocks frames) key ≡ true)
        ⊎ (is_among (used_at frame ++ used_blocks frames) key ≡ true)

    here : (is_among (pending_at frame) key ≡ true) ⊎ (is_among (used_at frame) key ≡ true) → Found
    here (inl h) = inl (among_front (pending_at frame) (pending_blocks frames) key h)
    here (inr h) = inr (among_front (used_at frame) (used_blocks frames) key h)

    outside : (is_among (pending_blocks frames) key ≡ true) ⊎ (is_among (used_blocks frames) key ≡ true) → Found
    outside (inl h) = inl (among_back (pending_at frame) (pending_blocks frames) key h)
    outside (inr h) = inr (among_back (used_at frame) (used_blocks frames) key h)

    go : (b : Bool) → is_jump_target_at frame key ≡ b → (if b then true else is_jump_target frames key) ≡ true
        → (is_jump_target frames key ≡ true
        → (is_among (pending_blocks frames) key ≡ true) ⊎ (is_among (used_blocks frames) key ≡ true)) → Found
    go true h r f = here (pending_or_used_there frame key h)
    go false h r f = outside (f r)

-- who owns frames may be told by less
owner_weaker : (hir : HirFunction) (P Q : BlockId → Type 0) (frame : Frame) → ((q : BlockId) → P q → Q q)
    → HasOwner hir P frame → HasOwner hir Q frame
owner_weaker hir P Q frame f o = record { owner = o.owner; chosen = f o.owner o.chosen; owns = o.owns }

pub owned_weaker : (hir : HirFunction) (P Q : BlockId → Type 0) (frames : List Frame) → ((q : BlockId) → P q → Q q)
    → AreOwned hir P frames → AreOwned hir Q frames
owned_weaker hir P Q [] f o = tt
owned_weaker hir P Q (frame ∷ frames) f o = (owner_weaker hir P Q frame f o.0, owned_weaker hir P Q frames f o.1)

-- the fallthrough of a terminal is framed by it, and so are its cases and what it tests
module _ (terminal : Terminal) (block key : BlockId) (same : same_id block key ≡ true) where
  framed_fallthroughs : is_among (fallthroughs terminal) block ≡ true → is_among (framed_blocks terminal) key ≡ true
  framed_fallthroughs f =
      among_back (blocks_as Test terminal) (fallthroughs terminal ++ blocks_as InCase terminal) key
      (among_front (fallthroughs terminal) (blocks_as InCase terminal) key (among_same (fallthroughs terminal) block key f same))

  framed_fallthrough : fallthrough_of terminal ≡ Some block → is_among (framed_blocks terminal) key ≡ true
  framed_fallthrough f = framed_fallthroughs (first_among (fallthroughs terminal) block f)

  framed_scope : is_among (blocks_as ScopeFallthrough terminal) block ≡ true → is_among (framed_blocks terminal) key ≡ true
  framed_scope f = framed_fallthroughs (among_back (blocks_as Fallthrough terminal)
      (blocks_as ValueFallthrough terminal ++ blocks_as ScopeFallthrough terminal) block
      (among_back (blocks_as ValueFallthrough terminal) (blocks_as ScopeFallthrough terminal) block f))

  framed_case : is_among (blocks_as InCase terminal) block ≡ true → is_among (framed_blocks terminal) key ≡ true
  framed_case c = among_back (blocks_as Test terminal) (fallthroughs terminal ++ blocks_as InCase terminal) key
      (among_back (fallthroughs terminal) (blocks_as InCase terminal) key
      (among_same (blocks_as InCase terminal) block key c same))

  framed_test : is_among (blocks_as Test terminal) block ≡ true → is_among (framed_blocks terminal) key ≡ true
  framed_test t = among_front (blocks_as Test terminal) (fallthroughs terminal ++ blocks_as InCase terminal) key
      (among_same (blocks_as Test terminal) block key t same)

-- a block that is a jump target at a frame is framed by the frame's terminal
framed_there : (terminal : Terminal) (frame : Frame) (key : BlockId) → IsFrameOf terminal frame
    → is_jump_target_at frame key ≡ true → is_among (framed_blocks terminal) key ≡ true
framed_there terminal (frame_kinds.Statement block) key f e =
    framed_fallthrough terminal block key (sole block key e) f
framed_there terminal (frame_kinds.Switch block) key f e =
    framed_fallthrough terminal block key (sole block key e) f
framed_there terminal (frame_kinds.Case block) key f e = framed_case terminal block key (sole block key e) f
framed_there terminal (frame_kinds.Scope block) key f e = framed_scope terminal block key (sole block key e) f
framed_there terminal frame_kinds.Mark key f e = let bad : ⊥ = cc in absurd bad
framed_there terminal (frame_kinds.Loop block again) key f e =
    go (or_cases (same_id block key) (same_id again key) e)
  where
    go : (same_id block key ≡ true) ⊎ (same_id again key ≡ true) → is_among (framed_blocks terminal) key ≡ true
    go (inl h) = framed_fallthrough terminal block key h f.0
    go (inr h) = framed_test terminal again key h f.1

-- a block of which P holds frames the block
pub record Frames (hir : HirFunction) (P : BlockId → Type 0) (key : BlockId) : Type 0 where
  pub owner : BlockId
  pub chosen : P owner
  pub frames : BlockIs hir owner (λ block. is_among (framed_blocks block.terminal) key ≡ true)

-- a jump target is framed by the owner of its frame
pub target_framed : (hir : HirFunction) (P : BlockId → Type 0) (frames : List Frame) (key : BlockId)
    → AreOwned hir P frames → is_jump_target frames key ≡ true → Frames hir P key
target_framed hir P [] key o e = let bad : ⊥ = cc in absurd bad
target_framed hir P (frame ∷ frames) key o e = go (is_jump_target_at frame key) refl e (target_framed hir P frames key o.1)
  where
    go : (b : Bool) → is_jump_target_at frame key ≡ b → (if b then true else is_jump_target frames key) ≡ true
        → (is_jump_target frames key ≡ true → Frames hir P key) → Frames hir P key
    go true h r f = record {
      owner = o.0.owner;
      chosen = o.0.chosen;
      frames = record {
        block = o.0.owns.block;
        found = o.0.owns.found;
        holds = framed_there o.0.owns.block.terminal frame key o.0.owns.holds h;
      };
    }
    go false h r f = f r

-- what follows of how a break to a block resolves, where it follows at the frame with that break block
at_owner : (hir : HirFunction) (P : BlockId → Type 0) (way : BreakResult) (key : BlockId) {Q : Type 0}
    → (NoFrame ≡ way → ⊥)
    → ((innermost taken : Bool) (frame : Frame) → HasOwner hir P frame → is_block (break_block frame) key ≡ true
    → resolve_at innermost taken frame ≡ way → Q)
    → (innermost taken : Bool) (frames : List Frame) → AreOwned hir P frames
    → resolve_from innermost taken frames key ≡ way → Q
at_owner hir P way key none at innermost taken [] o e = absurd (none e)
at_owner hir P way key {Q} none at innermost taken (frame ∷ frames) o e =
    go (is_block (break_block frame) key) refl e
    (at_owner hir P way key none at (innermost && is_mark frame) (taken || takes_unlabeled frame) frames o.1)
  where
    go : (b : Bool) → is_block (break_block frame) key ≡ b
        → (if b then resolve_at innermost taken frame
        else resolve_from (innermost && is_mark frame) (taken || takes_unlabeled frame) frames key) ≡ way
        → (resolve_from (innermost && is_mark frame) (taken || takes_unlabeled frame) frames key ≡ way → Q) → Q
    go true s h f = at innermost taken frame o.0 s h
    go false s h f = f h

-- a break that leaves a scope names a scope's fallthrough
leaves_scope_at : (hir : HirFunction) (P : BlockId → Type 0) (innermost taken : Bool) (frame : Frame) (key : BlockId)
    → HasOwner hir P frame → is_block (break_block frame) key ≡ true →
    resolve_at innermost taken frame ≡ LeavesScope → IsReferredAs ScopeFallthrough hir key
leaves_scope_at hir P innermost taken (frame_kinds.Statement block) key o s e = let bad : ⊥ = cc in absurd bad
leaves_scope_at hir P innermost taken (frame_kinds.Switch block) key o s e = let bad : ⊥ = cc in absurd bad
leaves_scope_at hir P true taken (frame_kinds.Case block) key o s e = let bad : ⊥ = cc in absurd bad
leaves_scope_at hir P false taken (frame_kinds.Case block) key o s e = let bad : ⊥ = cc in absurd bad
leaves_scope_at hir P innermost taken (frame_kinds.Scope block) key o s e = (
  o.owner,
  record {
    block = o.owns.block;
    found = o.owns.found;
    holds = among_same (blocks_as ScopeFallthrough o.owns.block.terminal) block key o.owns.holds s;
  },
)
leaves_scope_at hir P innermost taken (frame_kinds.Loop block continue_block) key o s e = let bad : ⊥ = cc in absurd bad
leaves_scope_at hir P innermost taken frame_kinds.Mark key o s e = let bad : ⊥ = cc in absurd bad

pub leaves_scope : (hir : HirFunction) (P : BlockId → Type 0) (innermost taken : Bool) (frames : List Frame)
    (key : BlockId) → AreOwned hir P frames →
    resolve_from innermost taken frames key ≡ LeavesScope → IsReferredAs ScopeFallthrough hir key
leaves_scope hir P innermost taken frames key =
    at_owner hir P LeavesScope key (λ bad. let no : ⊥ = cc in no)
    (λ i l frame. leaves_scope_at hir P i l frame key) innermost taken frames

-- a break that leaves a case names a case's block
leaves_case_at : (hir : HirFunction) (P : BlockId → Type 0) (innermost taken : Bool) (frame : Frame) (key : BlockId)
    → HasOwner hir P frame → is_block (break_block frame) key ≡ true →
    resolve_at innermost taken frame ≡ LeavesCase → IsReferredAs InCase hir key
leaves_case_at hir P innermost taken (frame_kinds.Statement block) key o s e = let bad : ⊥ = cc in absurd bad
leaves_case_at hir P innermost taken (frame_kinds.Switch block) key o s e = let bad : ⊥ = cc in absurd bad
leaves_case_at hir P innermost taken (frame_kinds.Case block) key o s e = (
  o.owner,
  record {
    block = o.owns.block;
    found = o.owns.found;
    holds = among_same (blocks_as InCase o.owns.block.terminal) block key o.owns.holds s;
  },
)
leaves_case_at hir P true taken (frame_kinds.Scope block) key o s e = let bad : ⊥ = cc in absurd bad
leaves_case_at hir P false taken (frame_kinds.Scope block) key o s e = let bad : ⊥ = cc in absurd bad
leaves_case_at hir P innermost taken (frame_kinds.Loop block continue_block) key o s e = let bad : ⊥ = cc in absurd bad
leaves_case_at hir P innermost taken frame_kinds.Mark key o s e = let bad : ⊥ = cc in absurd bad

pub leaves_case : (hir : HirFunction) (P : BlockId → Type 0) (innermost taken : Bool) (frames : List Frame)
    (key : BlockId) → AreOwned hir P frames →
    resolve_from innermost taken frames key ≡ LeavesCase → IsReferredAs InCase hir key
leaves_case hir P innermost taken frames key =
    at_owner hir P LeavesCase key (λ bad. let no : ⊥ = cc in no)
    (λ i l frame. leaves_case_at hir P i l frame key) innermost taken frames
