-- The current handler: which block a throw reaches, and what of a context doesn't depend on it.
use Rattle.std.proofs.Common.{◌≡◌, List, [], ◌∷◌, Bool, true, false, Option, Some, None, is_none, refl, sym, ap}
use Rattle.rc_names.specs.Numbers.{BlockId}
use Rattle.rc_hir.specs.Model.{Case}
use Rattle.rc_runs.specs.declared.frames.Frame.{Frame}
use Rattle.rc_runs.specs.Event.{End, Open, Returned, Thrown}
use Rattle.rc_runs.specs.ListContext.{ListContext, inside, is_current}
use Rattle.rc_runs.specs.SwitchCases.{case_context}
use Rattle.rc_runs.specs.Completion.{Completion, Normal, BreakTo, BreakInnermost, ContinueTo, ContinueLoop, Ended, is_thrown}
use Rattle.rc_names.proofs.NumbersLemmas.{same_id-eq}
use Rattle.rc_runs.proofs.FramesLemmas.{Aims}

-- the handler that a terminal names is the current one
pub named_handler : (named : BlockId) (current : Option BlockId) → is_current (Some named) current ≡ true
    → current ≡ Some named
named_handler named None e = absurd (let bad : ⊥ = cc in bad)
named_handler named (Some current) e = ap Some (sym (same_id-eq named current e))

-- a frame changes no handler
pub inside-handler : (opened : Bool) (frame : Frame) (context : ListContext)
    → (inside opened frame context).handler ≡ context.handler
inside-handler true frame context = refl
inside-handler false frame context = refl

-- neither do the frames of the cases of a switch
pub cases-handler : (later : List Case) (context : ListContext)
    → (case_context later context).handler ≡ context.handler
cases-handler [] context = refl
cases-handler (case ∷ later) context = cases-handler later context

-- a list under that handler can end a run so: throw statements are only outside of handlers
abbrev pub can_end : End → Option BlockId → Bool
can_end (Thrown place) handler = is_none handler
can_end _ handler = true

-- an end of a protected block isn't thrown
pub can_end-not_thrown : (end : End) (handler : BlockId) → can_end end (Some handler) ≡ true
    → is_thrown (Ended end) ≡ false
can_end-not_thrown Open handler e = refl
can_end-not_thrown (Returned place) handler e = refl
can_end-not_thrown (Thrown place) handler e = absurd (let bad : ⊥ = cc in bad)

-- so it can be the end of the statement too
pub can_end-outside : (end : End) (handler : BlockId) (around : Option BlockId) → can_end end (Some handler) ≡ true
    → can_end end around ≡ true
can_end-outside Open handler around e = refl
can_end-outside (Returned place) handler around e = refl
can_end-outside (Thrown place) handler around e = absurd (let bad : ⊥ = cc in bad)

-- a completion that leads to a block isn't thrown
pub aims-not_thrown : (context : ListContext) (outcome : Completion) (key : BlockId) → Aims context outcome key
    → is_thrown outcome ≡ false
aims-not_thrown context Normal key a = refl
aims-not_thrown context (BreakTo target) key a = refl
aims-not_thrown context BreakInnermost key a = refl
aims-not_thrown context (ContinueTo target) key a = refl
aims-not_thrown context ContinueLoop key a = refl
aims-not_thrown context (Ended end) key a = absurd a
