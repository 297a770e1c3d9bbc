-- The statements of a jump, and the block to which their completion leads.
--
-- `break_jumps` and `continue_jumps` give the block from the resolution of a break or a continue. What a resolution
-- says of the frames is shown for jumps from anywhere inside: with marks alone in between or not, with a loop or a mark
-- in between or not.
use Rattle.std.proofs.Common.{◌≡◌, List, [], ◌∷◌, Bool, true, false, ◌||◌, ◌&&◌, if◌then◌else◌, Option, Some, refl}
use Rattle.std.proofs.Common.{ap, ◌∙◌, subst}
use Rattle.std.proofs.lemmas.Bool.{or_parts}
use Rattle.rc_names.specs.Numbers.{BlockId, EvaluationOrder, same_id}
use Rattle.rc_tree.specs.declared.kind.ReactiveTerminalTargetKind.TheVariants.{Implicit, Labeled, Unlabeled}
use Rattle.rc_runs.specs.declared.frames.Frame.{Frame}
use Rattle.rc_runs.specs.declared.frames.Frame.TheVariants as frame_kinds
use Rattle.rc_runs.specs.declared.frames.BreakResult.{BreakResult}
use Rattle.rc_runs.specs.declared.frames.BreakResult.TheVariants.{NoFrame, LeavesScope, LeavesCase, FallsOff, Breaks}
use Rattle.rc_runs.specs.declared.frames.ContinueResult.{ContinueResult}
use Rattle.rc_runs.specs.declared.frames.ContinueResult.TheVariants.{NoLoop, Continues}
use Rattle.rc_runs.specs.Frames.{break_block, continue_block, fall_block, is_block, is_jump_target_at, is_jump_target}
use Rattle.rc_runs.specs.Frames.{is_loop, is_mark, takes_unlabeled, resolve_at, resolve_from, resolve_break}
use Rattle.rc_runs.specs.Frames.{continue_at, continue_from, resolve_continue}
use Rattle.rc_runs.specs.PlainTree.{Statements, Nil, Break, Continue}
use Rattle.rc_runs.specs.ListContext.{ListContext}
use Rattle.rc_runs.specs.SimpleStatements.{unlabeled, break_statements, continue_statements}
use Rattle.rc_names.proofs.NumbersLemmas.{same_id-eq, ids_equivalence}
use Rattle.rc_runs.proofs.FramesLemmas.{IsApart, AreApart, Fits, innermost, takes_labeled, has_target, loop_break}
use Rattle.rc_runs.proofs.FramesLemmas.{loop_continue, continue_of}

-- the statements of a jump to the block, by the block to which their completion leads
pub data Jumps (context : ListContext) (key : BlockId) : Statements → Type 0 where
  falls_off : context.next ≡ Some key → Jumps context key Nil
  breaks_implicit : {target : BlockId} {id : EvaluationOrder} → context.next ≡ Some key
      → Jumps context key (unlabeled (Break target Implicit id))
  breaks_labeled : {target : BlockId} {id : EvaluationOrder} → target ≡ key → has_target context.frames target ≡ true
      → Jumps context key (unlabeled (Break target Labeled id))
  breaks_unlabeled : {target : BlockId} {id : EvaluationOrder} → loop_break context.frames ≡ Some key
      → Jumps context key (unlabeled (Break target Unlabeled id))
  continues_implicit : {target : BlockId} {id : EvaluationOrder} → context.next ≡ Some key
      → Jumps context key (unlabeled (Continue target Implicit id))
  continues_labeled : {target : BlockId} {id : EvaluationOrder} → continue_of context.frames target ≡ Some key
      → Jumps context key (unlabeled (Continue target Labeled id))
  continues_unlabeled : {target : BlockId} {id : EvaluationOrder} → loop_continue context.frames ≡ Some key
      → Jumps context key (unlabeled (Continue target Unlabeled id))

-- falling off reaches what the innermost frame says, where marks alone are inside these frames
abbrev pub Falls : Bool → Option BlockId → List Frame → Type 0
Falls inner next frames = inner ≡ true → (frame : Frame) → innermost frames ≡ Some frame → next ≡ fall_block frame

-- a frame further out
falls_behind : (inner : Bool) (next : Option BlockId) (frame : Frame) (frames : List Frame) → Falls inner next (frame ∷ frames)
    → Falls (inner && is_mark frame) next frames
falls_behind true next (frame_kinds.Mark) frames falls e other q = falls refl other q
falls_behind true next (frame_kinds.Statement block) frames falls e other q = absurd (let bad : ⊥ = cc in bad)
falls_behind true next (frame_kinds.Switch block) frames falls e other q = absurd (let bad : ⊥ = cc in bad)
falls_behind true next (frame_kinds.Case block) frames falls e other q = absurd (let bad : ⊥ = cc in bad)
falls_behind true next (frame_kinds.Scope block) frames falls e other q = absurd (let bad : ⊥ = cc in bad)
falls_behind true next (frame_kinds.Loop block again) frames falls e other q = absurd (let bad : ⊥ = cc in bad)
falls_behind false next frame frames falls e other q = absurd (let bad : ⊥ = cc in bad)

-- the facts that the resolution of a break to the block gives, from further inside; `taken`: a loop or a mark is in
-- between
abbrev Says : Bool → Option BlockId → List Frame → BlockId → BreakResult → Type 0
Says taken next frames key FallsOff = next ≡ Some key
Says taken next frames key (Breaks Implicit) = next ≡ Some key
Says taken next frames key (Breaks Labeled) = has_target frames key ≡ true
Says taken next frames key (Breaks Unlabeled) = (taken ≡ false) × (loop_break frames ≡ Some key)
Says taken next frames key _ = Unit {0}

-- the break block is that of the frame
target_here : (frame : Frame) (frames : List Frame) (key : BlockId) → is_block (break_block frame) key ≡ true
    → takes_labeled frame ≡ true → has_target (frame ∷ frames) key ≡ true
target_here frame frames key q t = ap (λ same. if same then takes_labeled frame else has_target frames key) q ∙ t

-- the break block isn't that of the frame
target_behind : (frame : Frame) (frames : List Frame) (key : BlockId) → is_block (break_block frame) key ≡ false
    → has_target frames key ≡ true → has_target (frame ∷ frames) key ≡ true
target_behind frame frames key q h = ap (λ same. if same then takes_labeled frame else has_target frames key) q ∙ h

-- a break out of the frame
says_here : (inner taken : Bool) (next : Option BlockId) (frame : Frame) (frames : List Frame) (key : BlockId)
    → Falls inner next (frame ∷ frames) → is_block (break_block frame) key ≡ true
    → Says taken next (frame ∷ frames) key (resolve_at inner taken frame)
says_here true taken next (frame_kinds.Statement block) frames key falls q =
    falls refl (frame_kinds.Statement block) refl ∙ ap Some (same_id-eq block key q)
says_here false taken next (frame_kinds.Statement block) frames key falls q =
    target_here (frame_kinds.Statement block) frames key q refl
says_here true taken next (frame_kinds.Switch block) frames key falls q =
    falls refl (frame_kinds.Switch block) refl ∙ ap Some (same_id-eq block key q)
says_here false taken next (frame_kinds.Switch block) frames key falls q =
    target_here (frame_kinds.Switch block) frames key q refl
says_here true taken next (frame_kinds.Case block) frames key falls q =
    falls refl (frame_kinds.Case block) refl ∙ ap Some (same_id-eq block key q)
says_here false taken next (frame_kinds.Case block) frames key falls q = tt
says_here true taken next (frame_kinds.Scope block) frames key falls q =
    falls refl (frame_kinds.Scope block) refl ∙ ap Some (same_id-eq block key q)
says_here false taken next (frame_kinds.Scope block) frames key falls q = tt
says_here inner true next (frame_kinds.Loop block again) frames key falls q =
    target_here (frame_kinds.Loop block again) frames key q refl
says_here inner false next (frame_kinds.Loop block again) frames key falls q = (refl, ap Some (same_id-eq block key q))
says_here inner taken next frame_kinds.Mark frames key falls q = absurd (let bad : ⊥ = cc in bad)

-- a break out of a frame further out
says_further : (taken : Bool) (next : Option BlockId) (frame : Frame) (frames : List Frame) (key : BlockId)
    (way : BreakResult) → is_block (break_block frame) key ≡ false
    → Says (taken || takes_unlabeled frame) next frames key way → Says taken next (frame ∷ frames) key way
says_further taken next frame frames key NoFrame q h = tt
says_further taken next frame frames key LeavesScope q h = tt
says_further taken next frame frames key LeavesCase q h = tt
says_further taken next frame frames key FallsOff q h = h
says_further taken next frame frames key (Breaks Implicit) q h = h
says_further taken next frame frames key (Breaks Labeled) q h = target_behind frame frames key q h
says_further taken next frame frames key (Breaks Unlabeled) q h =
    let n = or_parts taken (takes_unlabeled frame) h.0 in
    (n.0, ap (λ takes. if takes then break_block frame else loop_break frames) n.1 ∙ h.1)

says : (inner taken : Bool) (next : Option BlockId) (frames : List Frame) (key : BlockId) → Falls inner next frames
    → Says taken next frames key (resolve_from inner taken frames key)
says inner taken next [] key falls = tt
says inner taken next (frame ∷ frames) key falls =
    go (is_block (break_block frame) key) refl
    (resolve_from (inner && is_mark frame) (taken || takes_unlabeled frame) frames key)
    (says (inner && is_mark frame) (taken || takes_unlabeled frame) next frames key
    (falls_behind inner next frame frames falls))
  where
    go : (same : Bool) → is_block (break_block frame) key ≡ same → (way : BreakResult)
        → Says (taken || takes_unlabeled frame) next frames key way
        → Says taken next (frame ∷ frames) key (if same then resolve_at inner taken frame else way)
    go true q way h = says_here inner taken next frame frames key falls q
    go false q way h = says_further taken next frame frames key way q h

-- the statements that an option holds jump there
jumps_as : {context : ListContext} {key : BlockId} {jump statements : Statements} → Jumps context key jump
    → Some jump ≡ Some statements → Jumps context key statements
jumps_as {context} {key} {jump} {statements} j e =
    subst (Jumps context key) (let same : jump ≡ statements = cc in same) j

-- the statements of a break jump to its target
pub break_jumps : (context : ListContext) (key : BlockId) (id : EvaluationOrder) (statements : Statements)
    → Fits context → break_statements (resolve_break context.frames key) key id ≡ Some statements
    → Jumps context key statements
break_jumps context key id statements fits e =
    go (resolve_break context.frames key) (says true false context.next context.frames key (λ e. fits.falls)) e
  where
    go : (way : BreakResult) → Says false context.next context.frames key way → break_statements way key id ≡ Some statements
        → Jumps context key statements
    go NoFrame s e = absurd (let bad : ⊥ = cc in bad)
    go LeavesScope s e = absurd (let bad : ⊥ = cc in bad)
    go LeavesCase s e = absurd (let bad : ⊥ = cc in bad)
    go FallsOff s e = jumps_as (falls_off s) e
    go (Breaks Implicit) s e = jumps_as (breaks_implicit s) e
    go (Breaks Labeled) s e = jumps_as (breaks_labeled refl s) e
    go (Breaks Unlabeled) s e = jumps_as (breaks_unlabeled s.1) e

-- the facts that the resolution of a continue to the block gives, from further inside
abbrev ContinueSays : Bool → Option BlockId → List Frame → BlockId → ContinueResult → Type 0
ContinueSays in_loop next frames key NoLoop = Unit {0}
ContinueSays in_loop next frames key (Continues target Implicit) = next ≡ Some key
ContinueSays in_loop next frames key (Continues target Labeled) =
    (is_jump_target frames target ≡ true) × (continue_of frames target ≡ Some key)
ContinueSays in_loop next frames key (Continues target Unlabeled) =
    (in_loop ≡ false) × (loop_continue frames ≡ Some key)

-- a jump target further out is one further inside too
jump_target_behind : (frame : Frame) (frames : List Frame) (key : BlockId) → is_jump_target frames key ≡ true
    → is_jump_target (frame ∷ frames) key ≡ true
jump_target_behind frame frames key h = go (is_jump_target_at frame key)
  where
    go : (here : Bool) → (if here then true else is_jump_target frames key) ≡ true
    go true = refl
    go false = h

-- a frame further inside isn't the loop that a continue from outside names
continue_behind : (frame : Frame) (frames : List Frame) (target : BlockId) → IsApart frame frames
    → is_jump_target frames target ≡ true → continue_of (frame ∷ frames) target ≡ continue_of frames target
continue_behind (frame_kinds.Statement block) frames target apart h = refl
continue_behind (frame_kinds.Switch block) frames target apart h = refl
continue_behind (frame_kinds.Case block) frames target apart h = refl
continue_behind (frame_kinds.Scope block) frames target apart h = refl
continue_behind (frame_kinds.Loop block again) frames target apart h = go (same_id block target) refl
  where
    go : (same : Bool) → same_id block target ≡ same
        → (if same then Some again else continue_of frames target) ≡ continue_of frames target
    go true q = absurd (let bad : ⊥ = cc (ap (is_jump_target frames) (same_id-eq block target q)) in bad)
    go false q = refl
continue_behind frame_kinds.Mark frames target apart h = refl

-- a continue of the frame
continue_says_here : (inner in_loop : Bool) (next : Option BlockId) (frame : Frame) (frames : List Frame) (key : BlockId)
    → Falls inner next (frame ∷ frames) → is_block (continue_block frame) key ≡ true
    → ContinueSays in_loop next (frame ∷ frames) key (continue_at inner in_loop frame)
continue_says_here inner true next (frame_kinds.Loop block again) frames key falls q = (
  ap (λ same. if same || same_id again block then true else is_jump_target frames block) (ids_equivalence.refl block),
  ap (λ same. if same then Some again else continue_of frames block) (ids_equivalence.refl block)
      ∙ ap Some (same_id-eq again key q),
)
continue_says_here true false next (frame_kinds.Loop block again) frames key falls q =
    falls refl (frame_kinds.Loop block again) refl ∙ ap Some (same_id-eq again key q)
continue_says_here false false next (frame_kinds.Loop block again) frames key falls q =
    (refl, ap Some (same_id-eq again key q))
continue_says_here inner in_loop next (frame_kinds.Statement block) frames key falls q = tt
continue_says_here inner in_loop next (frame_kinds.Switch block) frames key falls q = tt
continue_says_here inner in_loop next (frame_kinds.Case block) frames key falls q = tt
continue_says_here inner in_loop next (frame_kinds.Scope block) frames key falls q = tt
continue_says_here inner in_loop next frame_kinds.Mark frames key falls q = tt

-- a continue of a loop further out
continue_says_further : (in_loop : Bool) (next : Option BlockId) (frame : Frame) (frames : List Frame) (key : BlockId)
    (way : ContinueResult) → IsApart frame frames → ContinueSays (in_loop || is_loop frame) next frames key way
    → ContinueSays in_loop next (frame ∷ frames) key way
continue_says_further in_loop next frame frames key NoLoop apart h = tt
continue_says_further in_loop next frame frames key (Continues target Implicit) apart h = h
continue_says_further in_loop next frame frames key (Continues target Labeled) apart h =
    (jump_target_behind frame frames target h.0, continue_behind frame frames target apart h.0 ∙ h.1)
continue_says_further in_loop next frame frames key (Continues target Unlabeled) apart h =
    let n = or_parts in_loop (is_loop frame) h.0 in
    (n.0, ap (λ loop. if loop then fall_block frame else loop_continue frames) n.1 ∙ h.1)

continue_says : (inner in_loop : Bool) (next : Option BlockId) (frames : List Frame) (key : BlockId)
    → Falls inner next frames → AreApart frames
    → ContinueSays in_loop next frames key (continue_from inner in_loop frames key)
continue_says inner in_loop next [] key falls apart = tt
continue_says inner in_loop next (frame ∷ frames) key falls apart =
    go (is_block (continue_block frame) key) refl
    (continue_from (inner && is_mark frame) (in_loop || is_loop frame) frames key)
    (continue_says (inner && is_mark frame) (in_loop || is_loop frame) next frames key
    (falls_behind inner next frame frames falls) apart.1)
  where
    go : (same : Bool) → is_block (continue_block frame) key ≡ same → (way : ContinueResult)
        → ContinueSays (in_loop || is_loop frame) next frames key way
        → ContinueSays in_loop next (frame ∷ frames) key (if same then continue_at inner in_loop frame else way)
    go true q way h = continue_says_here inner in_loop next frame frames key falls q
    go false q way h = continue_says_further in_loop next frame frames key way apart.0 h

-- the statements of a continue jump to its target
pub continue_jumps : (context : ListContext) (key : BlockId) (id : EvaluationOrder) (statements : Statements)
    → Fits context → continue_statements (resolve_continue context.frames key) id ≡ Some statements
    → Jumps context key statements
continue_jumps context key id statements fits e =
    go (resolve_continue context.frames key)
    (continue_says true false context.next context.frames key (λ e. fits.falls) fits.apart) e
  where
    go : (way : ContinueResult) → ContinueSays false context.next context.frames key way
        → continue_statements way id ≡ Some statements → Jumps context key statements
    go NoLoop s e = absurd (let bad : ⊥ = cc in bad)
    go (Continues target Implicit) s e = jumps_as (continues_implicit s) e
    go (Continues target Labeled) s e = jumps_as (continues_labeled s.1) e
    go (Continues target Unlabeled) s e = jumps_as (continues_unlabeled s.1) e
