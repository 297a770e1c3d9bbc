-- Where a run of the graph leads that begins at a part of the tree.
--
-- Such a run stays in the part to its end; or it leaves it with a completion, goes to the block at which the completion
-- aims, and continues from there; or it throws in the part, and continues from the current handler: this is `Leads`.
-- `Below` is the claim for smaller runs. If a part needs other smaller runs than those of lists, these are a further
-- field of it.
use Rattle.std.proofs.Common.{◌≡◌, ℕ, suc, ◌<◌, List, [], ◌∷◌, ◌++◌, refl, sym, ap, ◌∙◌, subst, append_assoc}
use Rattle.std.proofs.Common.{append-nil, arith, ◌⊎◌, inl, inr, true}
use Rattle.rc_names.specs.Numbers.{BlockId}
use Rattle.rc_hir.specs.Model.{Terminal, Instruction, HirFunction, Environment}
use Rattle.rc_runs.specs.Event.{Event, Did, End, Open}
use Rattle.rc_runs.specs.GraphRun.{GraphRunAt, GraphRun, stopped, quiet, did, moved, returned, thrown}
use Rattle.rc_runs.specs.PlainTree.{Statements, Nil, Cons, Statement}
use Rattle.rc_runs.specs.ListContext.{ListContext}
use Rattle.rc_runs.specs.LoopParts.{LoopBlocks, LoopParts, turn_start}
use Rattle.rc_runs.specs.SimpleStatements.{rows_before}
use Rattle.rc_runs.specs.Grammar.{SpellsList, SpellsTurns}
use Rattle.rc_runs.specs.Completion.{Completion, Normal, Ended, leaves}
use Rattle.rc_runs.specs.BodyRun.{AtTurn, RunsList, RunsStatement, RunsLoop, stopped as stops, nothing, and_then}
use Rattle.rc_runs.specs.BodyRun.{goes_on, leaves_list, row, break_implicit, break_labeled, break_unlabeled}
use Rattle.rc_runs.specs.BodyRun.{continue_implicit, continue_labeled, continue_unlabeled}
use Rattle.rc_runs.proofs.FramesLemmas.{Fits, Aims, leaving, by_leaves, loop_label}
use Rattle.rc_runs.proofs.JumpsLemmas.{Jumps, falls_off, breaks_implicit, breaks_labeled, breaks_unlabeled}
use Rattle.rc_runs.proofs.JumpsLemmas.{continues_implicit, continues_labeled, continues_unlabeled}
use Rattle.rc_runs.proofs.RunSize.{size, size_at}
use Rattle.rc_runs.proofs.RowRuns.{quiet_row, did_row}
use Rattle.rc_runs.proofs.HandlerLemmas.{can_end}
use Rattle.rc_runs.proofs.Throws.{Throws, throw_behind, throw_under, throw_room}

-- the runs of a part of a tree
abbrev pub Runs : Type 1
Runs = List Event → Completion → Type 0

module _ (hir : HirFunction) (env : Environment) where
  -- a run of the graph begins at a part of the tree that has the runs `R`: it ends there, or goes out of the part to a
  -- block and on from there, or goes to the handler wherever a run of the part has come
  pub data Leads (context : ListContext) (bound : ℕ) (R : Runs) (events : List Event) (end : End) : Type 0 where
    ends : R events (Ended end) → can_end end context.handler ≡ true → Leads context bound R events end
    leads : {front back : List Event} {outcome : Completion} {key : BlockId} → R front outcome
        → Aims context outcome key →
        (run : GraphRunAt hir env key back end) → size_at run < bound → events ≡ front ++ back
        → Leads context bound R events end
    to_handler : Throws hir env context.handler (λ events. R events (Ended Open)) bound events end
        → Leads context bound R events end

  -- the claim for runs with fewer rows and edges
  pub record Below (bound : ℕ) : Type 0 where
    -- a run from a block on is one of the list that is spelled from there, or leads out of that list
    pub list : {key : BlockId} {context : ListContext} {statements : Statements} {used : List BlockId}
        {events : List Event} {end : End} → SpellsList hir env key context statements used → Fits context →
        (run : GraphRunAt hir env key events end) → size_at run < bound →
        Leads context bound (RunsList env statements) events end
    -- a run from the start of a loop's turn is one of the loop, or leads out of it
    pub turn : {blocks : LoopBlocks} {context : ListContext} {parts : LoopParts} {used : List BlockId}
        {events : List Event} {end : End} → SpellsTurns hir env blocks context parts used → Fits context →
        (run : GraphRunAt hir env (turn_start blocks) events end) → size_at run < bound →
        Leads (leaving true blocks.fallthrough context) bound (RunsLoop env (loop_label blocks) parts AtTurn) events end

module _ {hir : HirFunction} {env : Environment} {context : ListContext} {bound : ℕ} where
  pub more_room : {R : Runs} {events : List Event} {end : End} → Leads hir env context bound R events end
      → Leads hir env context (suc bound) R events end
  more_room (ends here can) = ends here can
  more_room (leads here aim run small e) = leads here aim run (omega arith) e
  more_room (to_handler t) = to_handler (throw_room (omega arith) t)

  -- the same with equal events
  pub lead_events : {R : Runs} {events all : List Event} {end : End} → all ≡ events
      → Leads hir env context bound R events end → Leads hir env context bound R all end
  lead_events {R} {end = end} e d = subst (λ v. Leads hir env context bound R v end) (sym e) d

  -- events come before those of the part
  pub lead_behind : {R S : Runs} {events : List Event} {end : End} (before : List Event) →
      ((events : List Event) (outcome : Completion) → R events outcome → S (before ++ events) outcome) →
      Leads hir env context bound R events end → Leads hir env context bound S (before ++ events) end
  lead_behind {events = events} {end} before put (ends here can) = ends (put events (Ended end) here) can
  lead_behind before put (leads {front = front} {back} {outcome} here aim run small e) =
      leads (put front outcome here) aim run small (ap (λ v. before ++ v) e ∙ sym (append_assoc before front back))
  lead_behind before put (to_handler t) =
      to_handler (throw_behind before (λ events here. put events (Ended Open) here) t)

  -- the part is in a statement that makes `whole` of its completion, and changes no handler
  pub lead_out : {within : ListContext} {R S : Runs} {events : List Event} {end : End} (whole : Completion → Completion)
      → ((end : End) → whole (Ended end) ≡ Ended end) →
      (before : List Event) → within.handler ≡ context.handler →
      ((outcome : Completion) (key : BlockId) → Aims within outcome key → Aims context (whole outcome) key) →
      ((events : List Event) (inner outer : Completion) → R events inner → outer ≡ whole inner
      → S (before ++ events) outer) →
      Leads hir env within bound R events end → Leads hir env context bound S (before ++ events) end
  lead_out {events = events} {end} whole ended before same aims put (ends here can) =
      ends (put events (Ended end) (Ended end) here (sym (ended end)))
      (sym (ap (can_end end) same) ∙ can)
  lead_out whole ended before same aims put (to_handler t) =
      to_handler (throw_under same (throw_behind before
      (λ events here. put events (Ended Open) (Ended Open) here (sym (ended Open))) t))
  lead_out whole ended before same aims put (leads {front = front} {back} {outcome} {key} here aim run small e) =
      leads (put front outcome (whole outcome) here refl) (aims outcome key aim) run small
      (ap (λ v. before ++ v) e ∙ sym (append_assoc before front back))

  -- the rows of a block, and then the statements of its terminal
  pub rows_lead : {rows : List Instruction} {terminal : Terminal} {rest : Statements} {events : List Event} {end : End}
      → (run : GraphRun hir env rows terminal events end) → size run < bound →
      ((events : List Event) (run : GraphRun hir env [] terminal events end) → size run < bound →
      Leads hir env context bound (RunsList env rest) events end) →
      Leads hir env context bound (RunsList env (rows_before rows rest)) events end
  unfolding size
  rows_lead stopped small go = ends stops refl
  rows_lead (quiet h run) small go =
      lead_behind [] (λ events outcome after. and_then (row (quiet_row h) refl) (goes_on after) refl)
      (rows_lead run (omega arith) go)
  rows_lead (did {row = first} h run) small go =
      lead_behind (Did first.value ∷ []) (λ events outcome after. and_then (row (did_row h) refl) (goes_on after) refl)
      (rows_lead run (omega arith) go)
  rows_lead (moved edge run e) small go = go _ (moved edge run e) small
  rows_lead returned small go = go _ returned small
  rows_lead thrown small go = go _ thrown small

  -- the statements of a jump
  pub jump_leads : {key : BlockId} {statements : Statements} {events : List Event} {end : End}
      → Jumps context key statements → (run : GraphRunAt hir env key events end) → size_at run < bound
      → Leads hir env context bound (RunsList env statements) events end
  jump_leads (falls_off n) run small = leads nothing n run small refl
  jump_leads (breaks_implicit n) run small = leads (and_then break_implicit (goes_on nothing) refl) n run small refl
  jump_leads (breaks_labeled e t) run small =
      leads (and_then (break_labeled refl) (leaves_list refl) refl) (e, t) run small refl
  jump_leads (breaks_unlabeled n) run small =
      leads (and_then break_unlabeled (leaves_list refl) refl) n run small refl
  jump_leads (continues_implicit n) run small =
      leads (and_then continue_implicit (goes_on nothing) refl) n run small refl
  jump_leads (continues_labeled n) run small =
      leads (and_then continue_labeled (leaves_list refl) refl) n run small refl
  jump_leads (continues_unlabeled n) run small =
      leads (and_then continue_unlabeled (leaves_list refl) refl) n run small refl

  -- a statement that is alone in its list
  pub alone_leads : {statement : Statement} {events : List Event} {end : End}
      → Leads hir env context bound (RunsStatement env statement) events end
      → Leads hir env context bound (RunsList env (Cons statement Nil)) events end
  alone_leads {events = events} (ends here can) = ends (and_then here (leaves_list refl) (sym (append-nil events))) can
  alone_leads (to_handler t) =
      to_handler (throw_behind [] (λ events here. and_then here (leaves_list refl) (sym (append-nil events))) t)
  alone_leads {statement} {events} {end} (leads {front = front} {outcome = outcome} {key} here aim run small e) =
      go (by_leaves outcome)
    where
      go : (outcome ≡ Normal) ⊎ (leaves outcome ≡ true)
          → Leads hir env context bound (RunsList env (Cons statement Nil)) events end
      go (inl n) = leads (and_then (subst (RunsStatement env statement front) n here) (goes_on nothing)
          (sym (append-nil front))) (subst (λ o. Aims context o key) n aim) run small e
      go (inr l) = leads (and_then here (leaves_list l) (sym (append-nil front))) aim run small e
