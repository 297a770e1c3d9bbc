-- How runs of the graph go on after the parts of a tree: for statements, their terminal, and the parts of a statement.
--
-- For statements that end with a completion, `After` says how runs of the graph go on: they end there, or any run from
-- the block to which the completion leads continues them. A block that ends in `Unreachable` spells nothing, so its
-- list falls off where the graph goes nowhere. But no used block leads to such a block, and no statement follows the
-- entry's list.
use Rattle.std.proofs.Common.{◌≡◌, List, [], ◌∷◌, ◌++◌, Bool, true, false, Option, Some, None, refl, sym}
use Rattle.std.proofs.Common.{ap, ◌∙◌, subst, append_assoc, arith}
use Rattle.std.proofs.lemmas.List.{append-nil}
use Rattle.rc_names.specs.Numbers.{BlockId}
use Rattle.rc_tree.specs.Model.{ReactiveLabel}
use Rattle.rc_hir.specs.Model.{Terminal, Instruction, HirFunction, Environment}
use Rattle.rc_hir.specs.Terminal.{evaluation_order}
use Rattle.rc_runs.specs.declared.frames.Frame.TheVariants as frame_kinds
use Rattle.rc_runs.specs.Event.{Event, End, Open}
use Rattle.rc_runs.specs.Silent.{is_unset}
use Rattle.rc_runs.specs.Graph.{is_unreachable, ends_unreachable}
use Rattle.rc_runs.specs.GraphRun.{Edge, HasNoUnreachableSuccessor, GraphRun, GraphRunAt}
use Rattle.rc_runs.specs.GraphRun as graph
use Rattle.rc_runs.specs.PlainTree.{Statements, Nil}
use Rattle.rc_runs.specs.ListContext.{ListContext, inside}
use Rattle.rc_runs.specs.Fallthrough.{label_of, falls_to}
use Rattle.rc_runs.specs.SimpleStatements.{rows_before}
use Rattle.rc_runs.specs.Grammar.{SpellsList, SpellsTerminal, SpellsRest}
use Rattle.rc_runs.specs.Grammar as grammar
use Rattle.rc_runs.specs.Completion.{Completion, Normal, Ended, leaves, caught}
use Rattle.rc_runs.specs.BodyRun.{RunsList, RunsAfter}
use Rattle.rc_runs.specs.BodyRun as body
use Rattle.rc_runs.proofs.SuccessorsLemmas.{fails_there}
use Rattle.rc_runs.proofs.GraphLemmas.{usable_block-at, ends_unreachable-at}
use Rattle.rc_runs.proofs.SetIds.{usable_block-set}
use Rattle.rc_runs.proofs.FramesLemmas.{Fits, fits_inside, Aims, Aims-leaves, leaving, falls_to-next, caught-ended}
use Rattle.rc_runs.proofs.FramesLemmas.{aims_labeled, aims_scope}
use Rattle.rc_runs.proofs.AliveBlocks.{AllAlive, alive_behind}
use Rattle.rc_runs.proofs.RowsLemmas.{SpellsRows, row_then, rows_done}

-- how runs of the graph go on after statements with that completion
pub data After (hir : HirFunction) (env : Environment) (context : ListContext) (run : List Event → End → Type 0)
    (events : List Event) : Completion → Type 0 where
  ends : {end : End} → run events end → After hir env context run events (Ended end)
  leads : {outcome : Completion} {key : BlockId} → Aims context outcome key → ends_unreachable hir key ≡ false →
      ((more : List Event) (end : End) → GraphRunAt hir env key more end → run (events ++ more) end)
      → After hir env context run events outcome

-- the claim of the recursion, for the statements that a block spells
abbrev pub Carries : HirFunction → Environment → ListContext → Statements → List Event → Completion → Type 0
Carries hir env context statements events outcome =
    Fits context → (rows : List Instruction) (terminal : Terminal) (used : List BlockId) →
    SpellsRows hir env rows terminal context statements used → (outcome ≡ Normal → is_unreachable terminal ≡ false)
    → HasNoUnreachableSuccessor hir terminal → AllAlive hir used
    → After hir env context (GraphRun hir env rows terminal) events outcome

module _ {hir : HirFunction} {env : Environment} where
  -- more events in front
  pub ahead : {context : ListContext} {inner run : List Event → End → Type 0} {events all : List Event}
      {outcome : Completion} (first : List Event) → After hir env context inner events outcome → all ≡ first ++ events
      → ((events : List Event) (end : End) → inner events end → run (first ++ events) end)
      → After hir env context run all outcome
  ahead {run = run} {events = events} first (ends {end} r) q put =
      ends (subst (λ l. run l end) (sym q) (put events end r))
  ahead {run = run} {events = events} first (leads aim live go) q put =
      leads aim live (λ more end r.
      let regrouped = sym (append_assoc first events more) ∙ sym (ap (λ l. l ++ more) q) in
      subst (λ l. run l end) regrouped (put (events ++ more) end (go more end r)))

  -- no more events after
  pub alone : {context : ListContext} {run : List Event → End → Type 0} {first all : List Event} {outcome : Completion}
      → After hir env context run first outcome → all ≡ first ++ [] → After hir env context run all outcome
  alone {context} {run} {first} {outcome = outcome} after q =
      subst (λ l. After hir env context run l outcome) (sym (q ∙ append-nil first)) after

  -- another context and completion that aim at the same blocks
  pub redirect : {inner context : ListContext} {run : List Event → End → Type 0} {events : List Event}
      {outcome outer : Completion} → After hir env inner run events outcome
      → ((key : BlockId) → Aims inner outcome key → Aims context outer key)
      → ((end : End) → outcome ≡ Ended end → outer ≡ Ended end) → After hir env context run events outer
  redirect {context = context} {run} {events} (ends {end} r) aims ended =
      subst (After hir env context run events) (sym (ended end refl)) (ends r)
  redirect (leads {key = key} aim live go) aims ended = leads (aims key aim) live go

  -- completions that leave, where falling off reaches another block
  pub elsewhere : {context : ListContext} {next : Option BlockId} {run : List Event → End → Type 0}
      {events : List Event} {outcome : Completion} → leaves outcome ≡ true
      → After hir env (record context { next = next }) run events outcome → After hir env context run events outcome
  elsewhere {context} {next} {outcome = outcome} l after =
      redirect after (λ key aim. Aims-leaves context next outcome key l aim) (λ end e. e)

  -- the completion of a statement, from that of its parts
  pub after_statement : {inner context : ListContext} {run : List Event → End → Type 0} {events : List Event}
      {outcome outer : Completion} (whole : Completion → Completion) → ((end : End) → whole (Ended end) ≡ Ended end)
      → After hir env inner run events outcome →
      ((key : BlockId) → Aims inner outcome key → Aims context (whole outcome) key)
      → outer ≡ whole outcome → After hir env context run events outer
  after_statement {context = context} whole ended after aims q =
      redirect after (λ key aim. subst (λ o. Aims context o key) (sym q) (aims key aim))
      (λ end e. q ∙ ap whole e ∙ ended end)

  -- a completion of a statement's parts, after the statement's label
  pub behind_label : {inner context : ListContext} {run : List Event → End → Type 0} {events : List Event}
      {outcome outer : Completion} (label : Option ReactiveLabel) → After hir env inner run events outcome →
      ((key : BlockId) → Aims inner outcome key → Aims context (caught label outcome) key)
      → outer ≡ caught label outcome → After hir env context run events outer
  behind_label label after aims q = after_statement (caught label) (caught-ended label) after aims q

  mutual
    -- a list that a block begins
    pub at_block : {key : BlockId} {context : ListContext} {statements : Statements} {used : List BlockId}
        {events : List Event} {outcome : Completion} → SpellsList hir env key context statements used → Fits context
        → (outcome ≡ Normal → ends_unreachable hir key ≡ false) → AllAlive hir used
        → Carries hir env context statements events outcome
        → After hir env context (GraphRunAt hir env key) events outcome
    at_block {key} {context} {events = events} {outcome} (grammar.from_block {used = later} {block = block} found l d q)
        fits live alive carries =
        let at = usable_block-at hir key block found in
        ahead [] (from_rows block.rows (usable_block-set hir key block found).terminal d fits
        (λ n. sym (ends_unreachable-at hir key block at) ∙ live n) (alive key (0, omega arith, refl) block at)
        (alive_behind hir (key ∷ []) later refl alive)
        (subst (λ s. Carries hir env context s events outcome) q carries)) refl (λ events end run. graph.enters at run)

    -- the remaining rows of a block, and then its terminal; from one that may throw, the list goes on at another block
    pub from_rows : {terminal : Terminal} {context : ListContext} {rest : Statements} {used : List BlockId}
        {events : List Event} {outcome : Completion} (rows : List Instruction)
        → is_unset (evaluation_order terminal) ≡ false → SpellsTerminal hir env terminal context rest used
        → Fits context → (outcome ≡ Normal → is_unreachable terminal ≡ false)
        → HasNoUnreachableSuccessor hir terminal → AllAlive hir used
        → Carries hir env context (rows_before rows rest) events outcome
        → After hir env context (GraphRun hir env rows terminal) events outcome
    from_rows (row ∷ rows) set d fits live moves alive carries = carries fits _ _ _ (row_then set d) live moves alive
    from_rows [] set (grammar.may_throw {continuation = key} current further d) fits live moves alive carries =
        ahead [] (at_block d fits (λ n. fails_there (ends_unreachable hir) graph.goes_on moves) alive carries) refl
        (λ events end run. graph.moved graph.goes_on run refl)
    from_rows [] set d fits live moves alive carries = carries fits _ _ _ (rows_done set d refl) live moves alive

  -- a part of a statement, to which the statement's terminal has an edge
  pub in_part : {terminal : Terminal} {step : List Event} {key : BlockId} {context : ListContext} {part : Statements}
      {used : List BlockId} {events : List Event} {outcome : Completion} → Edge terminal step key
      → SpellsList hir env key context part used → Fits context → HasNoUnreachableSuccessor hir terminal
      → AllAlive hir used → Carries hir env context part events outcome
      → After hir env context (GraphRun hir env [] terminal) (step ++ events) outcome
  in_part {step = step} {key} move d fits moves alive carries =
      ahead step (at_block d fits (λ n. fails_there (ends_unreachable hir) move moves) alive carries) refl
      (λ events end r. graph.moved move r refl)

  -- a part of a statement that has a label if its fallthrough is opened
  pub labeled_part : {terminal : Terminal} {step : List Event} {key : BlockId} {label : Option ReactiveLabel}
      {context : ListContext} {part : Statements} {used : List BlockId} {events : List Event} {inner outer : Completion}
      (opened : Bool) (fallthrough : BlockId) → Fits context → label ≡ label_of opened fallthrough
      → outer ≡ caught label inner → Edge terminal step key
      → SpellsList hir env key (inside opened (frame_kinds.Statement fallthrough) context) part used
      → HasNoUnreachableSuccessor hir terminal → AllAlive hir used
      → Carries hir env (inside opened (frame_kinds.Statement fallthrough) context) part events inner
      → After hir env (leaving opened fallthrough context) (GraphRun hir env [] terminal) (step ++ events) outer
  labeled_part {label = label} {context} {inner = inner} opened f fits l q move d moves alive carries =
      behind_label label (in_part move d (fits_inside opened (frame_kinds.Statement f) refl tt fits) moves alive carries)
      (aims_labeled opened (frame_kinds.Statement f) f context label refl refl refl l inner) q

  -- the part of a scope
  pub scope_part : {terminal : Terminal} {key : BlockId} {context : ListContext} {part : Statements}
      {used : List BlockId} {events : List Event} {outcome : Completion} (opened : Bool) (fallthrough : BlockId)
      → Fits context → Edge terminal [] key
      → SpellsList hir env key (inside opened (frame_kinds.Scope fallthrough) context) part used
      → HasNoUnreachableSuccessor hir terminal → AllAlive hir used
      → Carries hir env (inside opened (frame_kinds.Scope fallthrough) context) part events outcome
      → After hir env (leaving opened fallthrough context) (GraphRun hir env [] terminal) events outcome
  scope_part {context = context} {outcome = outcome} opened f fits move d moves alive carries =
      behind_label None (in_part move d (fits_inside opened (frame_kinds.Scope f) refl tt fits) moves alive carries)
      (aims_scope opened f context outcome) refl

  -- an edge straight to the fallthrough
  pub past_part : {terminal : Terminal} {step : List Event} {key : BlockId} (opened : Bool) (fallthrough : BlockId)
      (context : ListContext) → Edge terminal step key → key ≡ fallthrough
      → falls_to opened fallthrough context.next ≡ true → HasNoUnreachableSuccessor hir terminal
      → After hir env (leaving opened fallthrough context) (GraphRun hir env [] terminal) step Normal
  past_part {step = step} {key} opened f context move same falls moves =
      leads {key = key} (falls_to-next opened f context.next falls ∙ ap Some (sym same)) (fails_there (ends_unreachable hir) move moves)
      (λ more end r. graph.moved move r refl)

  -- no statements follow
  pub then_nothing : {context : ListContext} {run : List Event → End → Type 0} {first second all : List Event}
      {outcome last : Completion} → After hir env context run first outcome → RunsAfter env outcome Nil second last
      → all ≡ first ++ second → After hir env context run all last
  then_nothing {run = run} (leads aim live go) (body.goes_on body.stopped) q =
      ends (subst (λ l. run l Open) (sym q) (go [] Open graph.arrives))
  then_nothing after (body.goes_on body.nothing) q = alone after q
  then_nothing after (body.leaves_list l) q = alone after q

  -- the statements after a statement that is done
  pub onward : {run : List Event → End → Type 0} {fallthrough : BlockId} {opened : Bool} {context : ListContext}
      {rest : Statements} {used : List BlockId} {first second all : List Event} {outcome : Completion} → Fits context
      → SpellsRest hir env opened fallthrough context rest used
      → After hir env (leaving opened fallthrough context) run first Normal → RunsList env rest second outcome
      → all ≡ first ++ second → AllAlive hir used → Carries hir env context rest second outcome
      → After hir env context run all outcome
  onward fits grammar.no_rest after x q alive carries = then_nothing after (body.goes_on x) q
  onward {fallthrough = fallthrough} {first = first} fits (grammar.has_rest d) (leads {key = key} aim live go) x q alive
      carries =
      let same : key ≡ fallthrough = cc in
      ahead first (at_block d fits (λ n. subst (λ b. ends_unreachable hir b ≡ false) same live) alive carries) q
      (λ more end r. go more end (subst (λ b. GraphRunAt hir env b more end) (sym same) r))
