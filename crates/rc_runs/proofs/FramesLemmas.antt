-- The block of the graph to which a completion of statements leads, by the frames around them.
--
-- `Aims` says which block it is. `aims_labeled`, `aims_scope`, `aims_cases` and `rounded` say where a completion of a
-- statement's parts leads after the statement. Both directions between runs rest on these.
use Rattle.std.proofs.Common.{◌≡◌, List, [], ◌∷◌, Bool, true, false, if◌then◌else◌, Option, Some, None, refl, sym, ap}
use Rattle.std.proofs.Common.{◌∙◌, subst, ◌⊎◌, inl, inr}
use Rattle.rc_names.specs.Numbers.{BlockId, same_id}
use Rattle.rc_hir.specs.Model.{Case}
use Rattle.rc_tree.specs.Model.{ReactiveLabel}
use Rattle.rc_runs.specs.declared.frames.Frame.{Frame}
use Rattle.rc_runs.specs.declared.frames.Frame.TheVariants as frame_kinds
use Rattle.rc_runs.specs.Event.{End}
use Rattle.rc_runs.specs.Frames.{break_block, fall_block, is_block, is_jump_target, is_loop, is_mark, takes_unlabeled}
use Rattle.rc_runs.specs.ListContext.{ListContext, outermost, inside, marked, protected_by}
use Rattle.rc_runs.specs.LoopParts.{LoopBlocks, turn_start, loop_frame}
use Rattle.rc_runs.specs.SwitchCases.{case_context}
use Rattle.rc_runs.specs.Fallthrough.{label_of, is_next, falls_to}
use Rattle.rc_runs.specs.Completion.{Completion, Normal, BreakTo, BreakInnermost, ContinueTo, ContinueLoop, Ended, leaves}
use Rattle.rc_runs.specs.Completion.{caught, turns_again, caught_unlabeled}
use Rattle.rc_names.proofs.NumbersLemmas.{same_id-eq}

-- if the frame is a loop's, no jump further out can name its break block
abbrev pub IsApart : Frame → List Frame → Type 0
IsApart (frame_kinds.Loop block again) frames = is_jump_target frames block ≡ false
IsApart _ frames = Unit {0}

abbrev pub AreApart : List Frame → Type 0
AreApart [] = Unit {0}
AreApart (frame ∷ frames) = IsApart frame frames × AreApart frames

-- the innermost frame but for marks
abbrev pub innermost : List Frame → Option Frame
innermost [] = None
innermost (frame ∷ frames) = if is_mark frame then innermost frames else Some frame

-- the innermost frame determines which block falling off reaches, and each loop has a break block of its own
pub record Fits (context : ListContext) : Type 0 where
  pub falls : (frame : Frame) → innermost context.frames ≡ Some frame → context.next ≡ fall_block frame
  pub apart : AreApart context.frames

-- a labeled break can leave the frame
abbrev pub takes_labeled : Frame → Bool
takes_labeled (frame_kinds.Scope block) = false
takes_labeled (frame_kinds.Case block) = false
takes_labeled frame_kinds.Mark = false
takes_labeled _ = true

-- the innermost frame with that break block takes labeled breaks
abbrev pub has_target : List Frame → BlockId → Bool
has_target [] target = false
has_target (frame ∷ frames) target =
    if is_block (break_block frame) target then takes_labeled frame else has_target frames target

-- the break block of the innermost loop; none where a mark is further inside
abbrev pub loop_break : List Frame → Option BlockId
loop_break [] = None
loop_break (frame ∷ frames) = if takes_unlabeled frame then break_block frame else loop_break frames

-- the continue block of the innermost loop
abbrev pub loop_continue : List Frame → Option BlockId
loop_continue [] = None
loop_continue (frame ∷ frames) = if is_loop frame then fall_block frame else loop_continue frames

-- the continue block of the innermost loop with that break block
abbrev pub continue_of : List Frame → BlockId → Option BlockId
continue_of [] target = None
continue_of (frame ∷ frames) target =
    if is_loop frame then (if is_block (break_block frame) target then fall_block frame else continue_of frames target)
    else continue_of frames target

-- a completion of statements in that context leads to the block
abbrev pub Aims : ListContext → Completion → BlockId → Type 0
Aims context Normal key = context.next ≡ Some key
Aims context (BreakTo target) key = (target ≡ key) × (has_target context.frames target ≡ true)
Aims context BreakInnermost key = loop_break context.frames ≡ Some key
Aims context (ContinueTo target) key = continue_of context.frames target ≡ Some key
Aims context ContinueLoop key = loop_continue context.frames ≡ Some key
Aims context (Ended end) key = ⊥

-- the context of a statement's completion: leaving the statement reaches its fallthrough, if that is opened
abbrev pub leaving : Bool → BlockId → ListContext → ListContext
leaving opened fallthrough context = record context { next = if opened then Some fallthrough else context.next }

-- a completion that leaves doesn't depend on the block that falling off reaches
pub Aims-leaves : (context : ListContext) (next : Option BlockId) (outcome : Completion) (key : BlockId)
    → leaves outcome ≡ true → Aims (record context { next = next }) outcome key → Aims context outcome key
Aims-leaves context next Normal key h a = absurd (let bad : ⊥ = cc in bad)
Aims-leaves context next (BreakTo target) key h a = a
Aims-leaves context next BreakInnermost key h a = a
Aims-leaves context next (ContinueTo target) key h a = a
Aims-leaves context next ContinueLoop key h a = a
Aims-leaves context next (Ended end) key h a = a

-- a completion goes on with the next statement, or leaves
pub by_leaves : (outcome : Completion) → (outcome ≡ Normal) ⊎ (leaves outcome ≡ true)
by_leaves Normal = inl refl
by_leaves (BreakTo target) = inr refl
by_leaves BreakInnermost = inr refl
by_leaves (ContinueTo target) = inr refl
by_leaves ContinueLoop = inr refl
by_leaves (Ended end) = inr refl

-- ends and falling off pass any label
pub caught-ended : (label : Option ReactiveLabel) (end : End) → caught label (Ended end) ≡ Ended end
caught-ended None end = refl
caught-ended (Some label) end = refl

pub caught-normal : (label : Option ReactiveLabel) → caught label Normal ≡ Normal
caught-normal None = refl
caught-normal (Some label) = refl

-- what is found further out than a frame that takes no unlabeled jumps
behind : {A : Type 0} (takes : Bool) (own rest found : A) → takes ≡ false → (if takes then own else rest) ≡ found
    → rest ≡ found
behind takes own rest found n e = sym (ap (λ b. if b then own else rest) n) ∙ e

-- a frame that takes no unlabeled breaks is no loop
no_loop : (frame : Frame) → takes_unlabeled frame ≡ false → is_loop frame ≡ false
no_loop (frame_kinds.Loop block again) n = absurd (let bad : ⊥ = cc in bad)
no_loop frame_kinds.Mark n = refl
no_loop frame n = refl

-- the parts of such a frame fall off to its break block
falls_to_break_block : (frame : Frame) → takes_unlabeled frame ≡ false → fall_block frame ≡ break_block frame
falls_to_break_block (frame_kinds.Loop block again) n = absurd (let bad : ⊥ = cc in bad)
falls_to_break_block frame n = refl

-- a frame that is opened and takes labeled breaks, with its label
aims_opened : (frame : Frame) (block : BlockId) (context : ListContext) → break_block frame ≡ Some block
    → takes_labeled frame ≡ true → takes_unlabeled frame ≡ false
    → (outcome : Completion) (key : BlockId) → Aims (inside true frame context) outcome key
    → Aims (leaving true block context) (caught (label_of true block) outcome) key
aims_opened frame block context e t n Normal key a = sym e ∙ sym (falls_to_break_block frame n) ∙ a
aims_opened frame block context e t n (BreakTo target) key a =
    go (same_id block target) refl (sym (ap (λ b. if is_block b target then takes_labeled frame else
    has_target context.frames target) e) ∙ a.1)
  where
    go : (same : Bool) → same_id block target ≡ same
        → (if same then takes_labeled frame else has_target context.frames target) ≡ true
        → Aims (leaving true block context) (if same then Normal else BreakTo target) key
    go true q h = ap Some (same_id-eq block target q ∙ a.0)
    go false q h = (a.0, h)
aims_opened frame block context e t n BreakInnermost key a = behind (takes_unlabeled frame) _ _ _ n a
aims_opened frame block context e t n (ContinueTo target) key a = behind (is_loop frame) _ _ _ (no_loop frame n) a
aims_opened frame block context e t n ContinueLoop key a = behind (is_loop frame) _ _ _ (no_loop frame n) a
aims_opened frame block context e t n (Ended end) key a = absurd a

-- a completion of the parts of a statement whose frame takes labeled breaks, after the statement's label
pub aims_labeled : (opened : Bool) (frame : Frame) (block : BlockId) (context : ListContext)
    (label : Option ReactiveLabel) → break_block frame ≡ Some block →
    takes_labeled frame ≡ true → takes_unlabeled frame ≡ false → label ≡ label_of opened block
    → (outcome : Completion) (key : BlockId) → Aims (inside opened frame context) outcome key
    → Aims (leaving opened block context) (caught label outcome) key
aims_labeled true frame block context label b t n e outcome key a =
    subst (λ l. Aims (leaving true block context) (caught l outcome) key) (sym e)
    (aims_opened frame block context b t n outcome key a)
aims_labeled false frame block context label b t n e outcome key a =
    subst (λ l. Aims context (caught l outcome) key) (sym e) a

-- a completion inside a mark: no unlabeled break leads anywhere from there
pub aims_marked : (context : ListContext) (label : Option ReactiveLabel) (outcome : Completion) (key : BlockId)
    → Aims (marked context) outcome key → Aims context outcome key × (caught_unlabeled label outcome ≡ caught label outcome)
aims_marked context label Normal key a = (a, refl)
aims_marked context label (BreakTo target) key a = (a, refl)
aims_marked context label BreakInnermost key a = absurd (let bad : ⊥ = cc in bad)
aims_marked context label (ContinueTo target) key a = (a, refl)
aims_marked context label ContinueLoop key a = (a, refl)
aims_marked context label (Ended end) key a = absurd a

-- ends pass any loop and switch
pub caught_unlabeled-ended : (label : Option ReactiveLabel) (end : End) → caught_unlabeled label (Ended end) ≡ Ended end
caught_unlabeled-ended label end = caught-ended label end

-- a completion of a case of a switch, after the switch
pub aims_switch : (opened : Bool) (fallthrough : BlockId) (context : ListContext) (label : Option ReactiveLabel)
    → label ≡ label_of opened fallthrough → (outcome : Completion) (key : BlockId)
    → Aims (marked (inside opened (frame_kinds.Switch fallthrough) context)) outcome key
    → Aims (leaving opened fallthrough context) (caught_unlabeled label outcome) key
aims_switch opened fallthrough context label l outcome key a =
    let m = aims_marked (inside opened (frame_kinds.Switch fallthrough) context) label outcome key a in
    subst (λ o. Aims (leaving opened fallthrough context) o key) (sym m.1)
    (aims_labeled opened (frame_kinds.Switch fallthrough) fallthrough context label refl refl refl l outcome key m.0)

-- a completion that leaves a part whose frame takes no breaks
aims_past : (frame : Frame) (context : ListContext) → takes_labeled frame ≡ false → takes_unlabeled frame ≡ false
    → (outcome : Completion) (key : BlockId) → leaves outcome ≡ true → Aims (inside true frame context) outcome key
    → Aims context outcome key
aims_past frame context t n Normal key l a = absurd (let bad : ⊥ = cc in bad)
aims_past frame context t n (BreakTo target) key l a = (a.0, go (is_block (break_block frame) target) a.1)
  where
    go : (same : Bool) → (if same then takes_labeled frame else has_target context.frames target) ≡ true
        → has_target context.frames target ≡ true
    go true h = absurd (let bad : ⊥ = cc in bad)
    go false h = h
aims_past frame context t n BreakInnermost key l a = behind (takes_unlabeled frame) _ _ _ n a
aims_past frame context t n (ContinueTo target) key l a = behind (is_loop frame) _ _ _ (no_loop frame n) a
aims_past frame context t n ContinueLoop key l a = behind (is_loop frame) _ _ _ (no_loop frame n) a
aims_past frame context t n (Ended end) key l a = a

-- a completion of the part of a scope; a scope has no label, and no labeled break leaves it
pub aims_scope : (opened : Bool) (fallthrough : BlockId) (context : ListContext) (outcome : Completion) (key : BlockId)
    → Aims (inside opened (frame_kinds.Scope fallthrough) context) outcome key
    → Aims (leaving opened fallthrough context) outcome key
aims_scope false fallthrough context outcome key a = a
aims_scope true fallthrough context outcome key a = go (by_leaves outcome)
  where
    go : (outcome ≡ Normal) ⊎ (leaves outcome ≡ true) → Aims (leaving true fallthrough context) outcome key
    go (inl n) = rw n (subst (λ o. Aims (inside true (frame_kinds.Scope fallthrough) context) o key) n a)
    go (inr l) = aims_past (frame_kinds.Scope fallthrough) (leaving true fallthrough context) refl refl outcome key l a

-- a completion that leaves a case of a switch, with these kept cases after it
pub aims_cases : (later : List Case) (context : ListContext) (outcome : Completion) (key : BlockId)
    → leaves outcome ≡ true → Aims (case_context later context) outcome key → Aims context outcome key
aims_cases [] context outcome key l a = a
aims_cases (case ∷ later) context outcome key l a =
    aims_cases later context outcome key l
    (aims_past (frame_kinds.Case case.block) (case_context later context) refl refl outcome key l a)

-- a completion of a part that a handler protects: the handler plays no part in where it leads
pub aims_protected : (handler : BlockId) (context : ListContext) (outcome : Completion) (key : BlockId)
    → Aims (protected_by handler context) outcome key → Aims context outcome key
aims_protected handler context Normal key a = a
aims_protected handler context (BreakTo target) key a = a
aims_protected handler context BreakInnermost key a = a
aims_protected handler context (ContinueTo target) key a = a
aims_protected handler context ContinueLoop key a = a
aims_protected handler context (Ended end) key a = a

-- the label of a loop
abbrev pub loop_label : LoopBlocks → Option ReactiveLabel
loop_label blocks = label_of true blocks.fallthrough

-- a completion of a loop's body leads to the next turn, or out of the loop
pub data Rounded (blocks : LoopBlocks) (context : ListContext) (outcome : Completion) (key : BlockId) : Type 0 where
  to_turn : turns_again (loop_label blocks) outcome ≡ true → key ≡ turn_start blocks
      → Rounded blocks context outcome key
  out_of_loop : turns_again (loop_label blocks) outcome ≡ false
      → Aims (leaving true blocks.fallthrough context) (caught_unlabeled (loop_label blocks) outcome) key
      → Rounded blocks context outcome key

pub rounded : (blocks : LoopBlocks) (context : ListContext) (outcome : Completion) (key : BlockId)
    → Aims (inside true (loop_frame blocks) context) outcome key → Rounded blocks context outcome key
rounded blocks context Normal key a = to_turn refl (let same : key ≡ turn_start blocks = cc in same)
rounded blocks context (BreakTo target) key a = out_of_loop refl (go (same_id blocks.fallthrough target) refl a.1)
  where
    go : (same : Bool) → same_id blocks.fallthrough target ≡ same
        → (if same then true else has_target context.frames target) ≡ true
        → Aims (leaving true blocks.fallthrough context) (if same then Normal else BreakTo target) key
    go true q h = ap Some (same_id-eq blocks.fallthrough target q ∙ a.0)
    go false q h = (a.0, h)
rounded blocks context BreakInnermost key a = out_of_loop refl a
rounded blocks context (ContinueTo target) key a = go (same_id blocks.fallthrough target) refl a
  where
    go : (same : Bool) → same_id blocks.fallthrough target ≡ same
        → (if same then Some (turn_start blocks) else continue_of context.frames target) ≡ Some key
        → Rounded blocks context (ContinueTo target) key
    go true q h = to_turn q (let same : key ≡ turn_start blocks = cc in same)
    go false q h = out_of_loop q h
rounded blocks context ContinueLoop key a = to_turn refl (let same : key ≡ turn_start blocks = cc in same)
rounded blocks context (Ended end) key a = absurd a

-- the context of a body fits
pub fits_body : Fits outermost
fits_body = record { falls = λ frame e. absurd (let bad : ⊥ = cc in bad); apart = tt }

-- the context of a statement's part fits: the part falls off to the frame's fall block, if the fallthrough is opened
pub fits_inside : (opened : Bool) (frame : Frame) {context : ListContext} → is_mark frame ≡ false
    → IsApart frame context.frames → Fits context → Fits (inside opened frame context)
fits_inside true frame {context} m apart fits = record {
  falls = λ other q.
      let same : frame ≡ other = let e : Some frame ≡ Some other =
      sym (ap (λ b. if b then innermost context.frames else Some frame) m) ∙ q in cc in
      ap fall_block same;
  apart = (apart, fits.apart);
}
fits_inside false frame m apart fits = fits

-- the context of the cases of a switch fits
pub fits_marked : {context : ListContext} → Fits context → Fits (marked context)
fits_marked fits = record { falls = fits.falls; apart = (tt, fits.apart) }

-- the context of a part that a handler protects fits
pub fits_protected : (handler : BlockId) {context : ListContext} → Fits context → Fits (protected_by handler context)
fits_protected handler fits = record { falls = fits.falls; apart = fits.apart }

-- the context of a case fits
pub fits_cases : (later : List Case) {context : ListContext} → Fits context → Fits (case_context later context)
fits_cases [] fits = fits
fits_cases (case ∷ later) fits = fits_inside true (frame_kinds.Case case.block) refl tt (fits_cases later fits)

-- falling off reaches one block at most
pub is_next-same : (next : Option BlockId) (key : BlockId) → is_next next key ≡ true → next ≡ Some key
is_next-same None key h = absurd (let bad : ⊥ = cc in bad)
is_next-same (Some next) key h = ap Some (same_id-eq next key h)

-- leaving the statement leads to its fallthrough
pub falls_to-next : (opened : Bool) (fallthrough : BlockId) (next : Option BlockId)
    → falls_to opened fallthrough next ≡ true → (if opened then Some fallthrough else next) ≡ Some fallthrough
falls_to-next true fallthrough next h = refl
falls_to-next false fallthrough next h = is_next-same next fallthrough h
