-- A run of the graph that takes an edge of a terminal with a fallthrough is one of the terminal's statement, or leads
-- out of it.
use Rattle.std.proofs.Common.{◌≡◌, ℕ, ◌<◌, ◌||◌, Bool, true, false, List, [], ◌∷◌, ◌++◌, Option, Some, None, refl}
use Rattle.std.proofs.Common.{sym, ap, ◌∙◌, subst, append_assoc, arith, ◌⊎◌, inl, inr}
use Rattle.std.specs.List.{list_any}
use Rattle.rc_names.specs.Numbers.{BlockId, EvaluationOrder}
use Rattle.rc_hir.specs.Model.{Place, Case, Terminal, HirFunction, Environment}
use Rattle.rc_hir.specs.Successors.{is_default}
use Rattle.rc_hir.specs.Terminal.{evaluation_order}
use Rattle.rc_tree.specs.Model.{ReactiveLabel}
use Rattle.rc_runs.specs.declared.frames.Frame.{Frame}
use Rattle.rc_runs.specs.declared.frames.Frame.TheVariants as frame_kinds
use Rattle.rc_runs.specs.Event.{Event, Arm, Chose, Threw, End, Open}
use Rattle.rc_runs.specs.Silent.{is_unset}
use Rattle.rc_runs.specs.GraphRun.{Edge, then_arm, else_arm, to_case, past_cases as past_all, goes_to}
use Rattle.rc_runs.specs.GraphRun.{GraphRunAt}
use Rattle.rc_runs.specs.PlainTree.{Value, Statements, Statement, RowStatement, TerminalStatement, ScopeStatement}
use Rattle.rc_runs.specs.PlainTree.{PrunedScopeStatement, For, Switch, Try, Cases}
use Rattle.rc_runs.specs.ListContext.{ListContext, inside, marked, protected_by}
use Rattle.rc_runs.specs.LoopParts.{LoopBlocks, LoopParts}
use Rattle.rc_runs.specs.ShortArms.{SpellsSilentArm, SpellsShortArm}
use Rattle.rc_runs.specs.ValueGrammar.{Nested}
use Rattle.rc_runs.specs.ValueRun.{set_row}
use Rattle.rc_runs.specs.Fallthrough.{label_of, falls_to}
use Rattle.rc_runs.specs.Grammar.{SpellsList, SpellsStatement, SpellsCases, SpellsTurns, if_only, if_else}
use Rattle.rc_runs.specs.Grammar.{label_statement, try_statement, scope_statement, pruned_scope_statement}
use Rattle.rc_runs.specs.Grammar.{switch_statement, while_loop, do_while_loop, for_loop, for_of_loop, for_in_loop}
use Rattle.rc_runs.specs.Grammar.{value_statement}
use Rattle.rc_runs.specs.Completion.{Completion, Ended, caught, caught_unlabeled}
use Rattle.rc_runs.specs.Frames.{is_mark}
use Rattle.rc_runs.specs.BodyRun.{RunsList, RunsStatement, took_arm, took_other, in_case, past_cases, in_while}
use Rattle.rc_runs.specs.BodyRun.{in_do_while, in_init, past_init, in_for_of, in_for_in, in_label, in_try, in_handler}
use Rattle.rc_runs.specs.BodyRun.{row, in_scope, in_pruned_scope, absent, present}
use Rattle.rc_names.proofs.NumbersLemmas.{same_id-eq}
use Rattle.rc_runs.proofs.FramesLemmas.{IsApart, Fits, fits_inside, Aims, leaving, falls_to-next, caught-normal}
use Rattle.rc_runs.proofs.FramesLemmas.{fits_marked, caught_unlabeled-ended, aims_switch}
use Rattle.rc_runs.proofs.FramesLemmas.{caught-ended, aims_labeled, aims_scope, aims_protected, fits_protected}
use Rattle.rc_runs.proofs.RunSize.{size_at, run_to}
use Rattle.rc_runs.proofs.FlattenedRuns.{value_stops}
use Rattle.rc_runs.proofs.ShortEnds.{by_arm, nested_set}
use Rattle.rc_runs.proofs.HandlerLemmas.{inside-handler, can_end, can_end-not_thrown, can_end-outside, aims-not_thrown}
use Rattle.rc_runs.proofs.Throws.{Throws, throws_there, throw_behind, throw_room}
use Rattle.rc_runs.proofs.GraphToSilentArm.{PassesArm, comes_behind, throws_in_arm, past_arm}
use Rattle.rc_runs.proofs.Passes.{stops, passes, shortens, throws_out, Goes, stays_inside, goes, throws_inside}
use Rattle.rc_runs.proofs.GraphToNested.{NestedPasses}
use Rattle.rc_runs.proofs.GraphToValue.{nested_passes, passes_going}
use Rattle.rc_runs.proofs.KeptCases.{same_default, Kept, is_there, leads_on, kept_or_past, none_among_kept}
use Rattle.rc_runs.proofs.Leads.{Runs, Leads, ends, leads, to_handler, Below, lead_events, lead_behind, lead_out}
use Rattle.rc_runs.proofs.GraphToLoop.{body_leads, test_leads, turn_leads, nothing_first, loop_with}
use Rattle.rc_runs.proofs.GraphToCases.{chosen_leads}

-- a run of the graph that begins at a statement with a fallthrough
abbrev StatementLeads : (hir : HirFunction) → Environment → ℕ → ListContext → Bool → BlockId → Statement → List Event
    → End → Type 0
StatementLeads hir env bound context opened fallthrough statement events end =
    Leads hir env (leaving opened fallthrough context) bound (RunsStatement env statement) events end

module _ {hir : HirFunction} {env : Environment} {bound : ℕ} (below : Below hir env bound) {context : ListContext}
    (fits : Fits context) where
  -- a part of a statement, inside the frame of the statement's fallthrough
  part_leads : {key : BlockId} {part : Statements} {used : List BlockId} {events : List Event} {end : End} {S : Runs}
      {behind : ListContext} (opened : Bool) (own : Frame) (name : Option ReactiveLabel) (before : List Event) →
      is_mark own ≡ false → IsApart own context.frames → context.handler ≡ behind.handler →
      ((outcome : Completion) (key : BlockId) → Aims (inside opened own context) outcome key
      → Aims behind (caught name outcome) key) →
      ((events : List Event) (inner outer : Completion) → RunsList env part events inner → outer ≡ caught name inner
      → S (before ++ events) outer) →
      SpellsList hir env key (inside opened own context) part used
      → (run : GraphRunAt hir env key events end) → size_at run < bound
      → Leads hir env behind bound S (before ++ events) end
  part_leads opened own name before solid apart same aims put d run small =
      lead_out (caught name) (caught-ended name) before (inside-handler opened own context ∙ same) aims put
      (below.list d (fits_inside opened own solid apart fits) run small)

  -- past all cases of a switch that keeps no default
  past_leads : (opened : Bool) {test : Place} {kept : List Case} {fallthrough : BlockId} {id : EvaluationOrder}
      {cases : Cases} {label : Option ReactiveLabel} {used : List BlockId} {events : List Event} {end : End}
      → list_any is_default kept ≡ false → list_any is_default kept || falls_to opened fallthrough context.next ≡ true
      → SpellsCases hir env kept (marked (inside opened (frame_kinds.Switch fallthrough) context)) cases used
      → (run : GraphRunAt hir env fallthrough events end) → size_at run < bound
      → StatementLeads hir env bound context opened fallthrough (TerminalStatement (Switch test cases id) label)
      (Chose None ∷ events) end
  past_leads o {fallthrough = f} none reached d run small =
      leads (past_cases (sym (same_default d) ∙ none))
      (falls_to-next o f context.next (sym (ap (λ kept. kept || falls_to o f context.next) none) ∙ reached)) run small
      refl

  -- a case of a switch, kept or not
  switch_leads : (opened : Bool) {test : Place} {kept : List Case} {fallthrough : BlockId} {id : EvaluationOrder}
      {cases : Cases} {label : Option ReactiveLabel} {used : List BlockId} {case : Case} {events : List Event}
      {end : End} → label ≡ label_of opened fallthrough → Kept kept fallthrough case
      → list_any is_default kept || falls_to opened fallthrough context.next ≡ true
      → SpellsCases hir env kept (marked (inside opened (frame_kinds.Switch fallthrough) context)) cases used
      → (run : GraphRunAt hir env case.block events end) → size_at run < bound
      → StatementLeads hir env bound context opened fallthrough (TerminalStatement (Switch test cases id) label)
      (Chose case.test ∷ events) end
  switch_leads o {fallthrough = f} {label = l} {case = case} j (is_there among) reached d run small =
      lead_out (caught_unlabeled l) (caught_unlabeled-ended l) (Chose case.test ∷ []) (inside-handler o (frame_kinds.Switch f) context)
      (aims_switch o f context l j)
      (λ events inner outer p q. in_case p q)
      (chosen_leads below (fits_marked (fits_inside o (frame_kinds.Switch f) refl tt fits)) among d run small)
  switch_leads o {events = events} j (leads_on test block none) reached d run small =
      let from = run_to block run small in
      lead_events (ap (λ chosen. Chose chosen ∷ events) test) (past_leads o none reached d from.0 from.1)

  -- the init of a `for`, and then its turns
  for_leads : {blocks : LoopBlocks} {parts : LoopParts} {id : EvaluationOrder} {init_value : Value}
      {used : List BlockId} {events : List Event} {end : End} → SpellsTurns hir env blocks context parts used
      → (small : ℕ) → small < bound → Goes hir env context.handler init_value blocks.test small events end
      → StatementLeads hir env bound context true blocks.fallthrough
      (TerminalStatement (For init_value parts.test parts.before parts.body id) (label_of true blocks.fallthrough))
      events end
  for_leads {blocks} {parts} {id} {init_value} {events = events} d small less (stays_inside here e) =
      ends (subst (λ z. RunsStatement env (TerminalStatement (For init_value parts.test parts.before parts.body id)
      (label_of true blocks.fallthrough)) events (Ended z)) (sym e) (in_init here))
      (ap (λ z. can_end z context.handler) e)
  for_leads d small less (throws_inside t) =
      to_handler (throw_room (omega arith) (throw_behind [] (λ events here. in_init here) t))
  for_leads d small less (goes {front = front} here from nearer e) =
      lead_events e (lead_behind front (λ events outcome after. past_init here refl after refl)
      (test_leads below d fits from (omega arith)))

  -- a value terminal is a row, whose short end is its end
  value_leads : (opened : Bool) {nested : Nested} {arm_used : List BlockId} {events : List Event} {end : End}
      → falls_to opened nested.fallthrough context.next ≡ true → is_unset nested.id ≡ false
      → SpellsShortArm hir env context.handler nested.fallthrough false nested.short None None arm_used
      → NestedPasses hir env context.handler bound nested events end
      → StatementLeads hir env bound context opened nested.fallthrough
      (RowStatement nested.id (Some nested.answer) nested.value nested.span) events end
  value_leads o {nested} {events = events} {end} falls set arm (stops here e) =
      ends (subst (λ z. RunsStatement env (RowStatement nested.id (Some nested.answer) nested.value nested.span) events
      (Ended z)) (sym e) (row (set_row set here) refl)) (ap (λ z. can_end z context.handler) e)
  value_leads o falls set arm (throws_out t) =
      to_handler (throw_behind [] (λ events here. row (set_row set here) refl) t)
  value_leads o {nested} falls set arm (passes here at e) =
      leads (row (set_row set here) refl) (falls_to-next o nested.fallthrough context.next falls) at.run at.small e
  value_leads o {nested} {arm_used} {events} {end} falls set arm
      (shortens {front = front} {back} {alternate} here short at e) =
      go (by_arm arm short)
    where
      through : PassesArm hir env context.handler nested.fallthrough bound back end
          → StatementLeads hir env bound context o nested.fallthrough
          (RowStatement nested.id (Some nested.answer) nested.value nested.span) events end
      through (comes_behind behind) =
          leads (row (set_row set here) refl) (falls_to-next o nested.fallthrough context.next falls) behind.run
          behind.small e
      through (throws_in_arm current behind q) =
          to_handler (throws_there front (row (set_row set (value_stops here)) refl) current behind e q)

      go : ((false ≡ true) × (None ≡ Some alternate))
          ⊎ ((false ≡ false) × SpellsSilentArm hir env context.handler nested.fallthrough alternate arm_used)
          → StatementLeads hir env bound context o nested.fallthrough
          (RowStatement nested.id (Some nested.answer) nested.value nested.span) events end
      go (inl left) = absurd (let bad : ⊥ = cc (left.0) in bad)
      go (inr own) = through (past_arm own.1 at.run at.small)

  -- the handler of a try, after the protected block has thrown
  handler_leads : (opened : Bool) (fallthrough : BlockId) {handler : BlockId} {binding : Option Place}
      {id : EvaluationOrder}
      {part other : Statements} {label : Option ReactiveLabel} {used : List BlockId} {events : List Event} {end : End}
      → label ≡ label_of opened fallthrough
      → SpellsList hir env handler (inside opened (frame_kinds.Statement fallthrough) context) other used
      → Throws hir env (Some handler) (λ events. RunsList env part events (Ended Open)) bound events end
      → StatementLeads hir env bound context opened fallthrough
      (TerminalStatement (Try part binding other id) label) events end
  handler_leads o f {handler} {label = l} j d t =
      let from = run_to (let same : t.key ≡ handler = cc (t.current) in same) t.at.run t.at.small in
      lead_events (t.whole ∙ sym (append_assoc t.front (Threw ∷ []) t.back))
      (part_leads o (frame_kinds.Statement f) l (t.front ++ Threw ∷ []) refl tt refl
      (aims_labeled o (frame_kinds.Statement f) f context l refl refl refl j)
      (λ events inner outer p q. in_handler t.inside refl p q (append_assoc t.front (Threw ∷ []) events)) d from.0
      from.1)

  -- the protected block of a try: a throw in it leads to the handler
  try_leads : (opened : Bool) (fallthrough : BlockId) {handler : BlockId} {binding : Option Place}
      {id : EvaluationOrder}
      {part other : Statements} {label : Option ReactiveLabel} {used : List BlockId} {events : List Event} {end : End}
      → label ≡ label_of opened fallthrough
      → SpellsList hir env handler (inside opened (frame_kinds.Statement fallthrough) context) other used
      → Leads hir env (protected_by handler (inside opened (frame_kinds.Statement fallthrough) context)) bound
      (RunsList env part) events end
      → StatementLeads hir env bound context opened fallthrough
      (TerminalStatement (Try part binding other id) label) events end
  try_leads o f {handler} {label = l} {end = end} j d (ends here can) =
      ends (in_try here (can_end-not_thrown end handler can) (sym (caught-ended l end)))
      (can_end-outside end handler context.handler can)
  try_leads o f {handler} {label = l} j d (leads {outcome = outcome} {key} here aim run small e) =
      let out = aims_protected handler (inside o (frame_kinds.Statement f) context) outcome key aim in
      leads (in_try here (aims-not_thrown (inside o (frame_kinds.Statement f) context) outcome key out) refl)
      (aims_labeled o (frame_kinds.Statement f) f context l refl refl refl j outcome key out) run small e
  try_leads o f j d (to_handler t) = handler_leads o f j d t

  -- an edge from a terminal that has a fallthrough
  pub statement_leads : {terminal : Terminal} {step : List Event} {key : BlockId} {opened : Bool}
      {fallthrough : BlockId} {statement : Statement} {used : List BlockId} {events : List Event} {end : End} →
      is_unset (evaluation_order terminal) ≡ false →
      SpellsStatement hir env terminal context opened fallthrough statement used → Edge terminal step key →
      (run : GraphRunAt hir env key events end) → size_at run < bound →
      StatementLeads hir env bound context opened fallthrough statement (step ++ events) end
  statement_leads set (if_only {fallthrough = f} {opened = o} {label = l} i j x y d) then_arm run small =
      part_leads o (frame_kinds.Statement f) l (Arm true ∷ []) refl tt refl
      (aims_labeled o (frame_kinds.Statement f) f context l refl refl refl j)
      (λ events inner outer p q. took_arm p q) d run small
  statement_leads set (if_only {alternate = a} {fallthrough = f} {opened = o} {label = l} i j x y d) else_arm run
      small =
      leads (took_other absent (sym (caught-normal l)))
      (falls_to-next o f context.next y ∙ ap Some (sym (same_id-eq a f x))) run small refl
  statement_leads set (if_else {fallthrough = f} {opened = o} {label = l} i j x d a w) then_arm run small =
      part_leads o (frame_kinds.Statement f) l (Arm true ∷ []) refl tt refl
      (aims_labeled o (frame_kinds.Statement f) f context l refl refl refl j)
      (λ events inner outer p q. took_arm p q) d run small
  statement_leads set (if_else {fallthrough = f} {opened = o} {label = l} i j x d a w) else_arm run small =
      part_leads o (frame_kinds.Statement f) l (Arm false ∷ []) refl tt refl
      (aims_labeled o (frame_kinds.Statement f) f context l refl refl refl j)
      (λ events inner outer p q. took_other (present p) q) a run small
  statement_leads set (label_statement {fallthrough = f} {opened = o} {label = l} i j d) goes_to run small =
      part_leads o (frame_kinds.Statement f) l [] refl tt refl
      (aims_labeled o (frame_kinds.Statement f) f context l refl refl refl j)
      (λ events inner outer p q. in_label p q) d run small
  statement_leads set (try_statement {handler = handler} {fallthrough = f} {opened = o} i j d other w) goes_to run
      small =
      try_leads o f j other
      (below.list d (fits_protected handler (fits_inside o (frame_kinds.Statement f) refl tt fits)) run small)
  statement_leads set (scope_statement {fallthrough = f} {scope = number} {opened = o} {part = part} i d) goes_to run
      small =
      part_leads o (frame_kinds.Scope f) None [] refl tt refl (aims_scope o f context)
      (λ events inner outer p q. subst (RunsStatement env (ScopeStatement number part) events) (sym q)
      (in_scope p)) d run small
  statement_leads set (pruned_scope_statement {fallthrough = f} {scope = number} {opened = o} {part = part} i d)
      goes_to run small =
      part_leads o (frame_kinds.Scope f) None [] refl tt refl (aims_scope o f context)
      (λ events inner outer p q. subst (RunsStatement env (PrunedScopeStatement number part) events) (sym q)
      (in_pruned_scope p)) d run small
  statement_leads {events = events} set (switch_statement {cases = cases} {fallthrough = f} {opened = o} i j one past k
      reached d) (to_case {case = case} among chosen block) run small =
      let from = run_to block run small in
      lead_events (ap (λ c. Chose c ∷ events) chosen)
      (switch_leads o j (subst (λ kept. Kept kept f case) (sym k) (kept_or_past _ f case cases one among)) reached d
      from.0 from.1)
  statement_leads set (switch_statement {cases = cases} {fallthrough = f} {opened = o} i j one past k reached d)
      (past_all none) run small =
      past_leads o (ap (list_any is_default) k ∙ none_among_kept _ f cases none) reached d run small
  statement_leads set (while_loop alive d) goes_to run small =
      lead_behind [] (λ events outcome after. in_while (loop_with None (nothing_first d refl) after))
      (test_leads below d fits run (omega arith))
  statement_leads set (do_while_loop d) goes_to run small =
      lead_behind [] (λ events outcome after. in_do_while (loop_with None (nothing_first d refl) after))
      (body_leads below d fits run small)
  statement_leads set (for_loop init d w) goes_to run small = for_leads d (size_at run) small (passes_going init run)
  statement_leads set (for_of_loop {init_value = init} e d) goes_to run small =
      lead_behind [] (λ events outcome after. in_for_of (loop_with (Some init) e after))
      (turn_leads below d fits run (omega arith))
  statement_leads set (for_in_loop d) goes_to run small =
      lead_behind [] (λ events outcome after. in_for_in (loop_with None (nothing_first d refl) after))
      (test_leads below d fits run (omega arith))
  statement_leads set (value_statement {opened = o} i falls d arm w) edge run small =
      value_leads o falls (nested_set set d) arm (nested_passes bound d edge run small)
