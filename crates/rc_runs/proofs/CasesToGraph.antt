-- How runs of the graph go on after the cases of a switch.
--
-- A default that leads straight to the fallthrough may be left out of the tree. The graph still takes it, and so comes
-- to the fallthrough with the same event as if no case were chosen.
use Rattle.std.proofs.Common.{◌≡◌, List, [], ◌∷◌, ◌++◌, Bool, true, false, ◌||◌, cond, Option, Some, None}
use Rattle.std.proofs.Common.{refl, sym, ap, ◌∙◌, subst}
use Rattle.std.specs.List.{list_any}
use Rattle.rc_names.specs.Numbers.{BlockId, EvaluationOrder}
use Rattle.rc_names.specs.declared.span.Span.{Span}
use Rattle.rc_hir.specs.Model.{Place, Case, HirFunction, Environment}
use Rattle.rc_hir.specs.Successors.{is_default, ByCase, blocks}
use Rattle.rc_hir.specs.declared.terminal.Terminal.TheVariants as terminals
use Rattle.rc_tree.specs.Model.{ReactiveLabel}
use Rattle.rc_runs.specs.declared.frames.Frame.TheVariants as frame_kinds
use Rattle.rc_runs.specs.Event.{Event, Chose, End}
use Rattle.rc_runs.specs.Graph.{ends_unreachable}
use Rattle.rc_runs.specs.GraphRun.{InCases, Move, HasNoUnreachableSuccessor, GraphRun, GraphRunAt}
use Rattle.rc_runs.specs.GraphRun as graph
use Rattle.rc_runs.specs.PlainTree.{Statements, Cases}
use Rattle.rc_runs.specs.ListContext.{ListContext, inside, marked}
use Rattle.rc_runs.specs.SwitchCases.{is_kept, kept_cases, has_one_default, case_context}
use Rattle.rc_runs.specs.Fallthrough.{label_of, falls_to}
use Rattle.rc_runs.specs.Grammar.{SpellsList, SpellsCases}
use Rattle.rc_runs.specs.Completion.{Completion, Normal, leaves, caught_unlabeled}
use Rattle.rc_runs.specs.BodyRun.{has_default}
use Rattle.rc_runs.proofs.SuccessorsLemmas.{fails_there}
use Rattle.rc_runs.proofs.FramesLemmas.{Fits, fits_cases, leaving, aims_switch, aims_cases, caught_unlabeled-ended}
use Rattle.rc_runs.proofs.KeptCases.{in_any, same_default, is_there, leads_on, kept_or_past}
use Rattle.rc_runs.proofs.AliveBlocks.{AllAlive}
use Rattle.rc_runs.proofs.AfterParts.{After, leads, Carries, ahead, redirect, after_statement, at_block, past_part}

-- a kept case is a case of the switch
kept_in_cases : (is_target : Bool) (fallthrough : BlockId) (cases : List Case) {case : Case}
    → InCases case (kept_cases is_target fallthrough cases) → InCases case cases
kept_in_cases is_target f [] among = elim among [ ]
kept_in_cases is_target f (other ∷ cases) {case} among =
    go (is_kept is_target f other) among (λ further. kept_in_cases is_target f cases further)
  where
    go : (kept : Bool) → InCases case (cond kept (other ∷ kept_cases is_target f cases) (kept_cases is_target f cases))
        → (InCases case (kept_cases is_target f cases) → InCases case cases) → InCases case (other ∷ cases)
    go true (graph.first same) behind = graph.first same
    go true (graph.later among) behind = graph.later (behind among)
    go false among behind = graph.later (behind among)

-- a default among cases
record SomeDefault (cases : List Case) : Type 0 where
  case : Case
  among : InCases case cases
  default : is_default case ≡ true

some_default : (cases : List Case) → list_any is_default cases ≡ true → SomeDefault cases
some_default [] some = absurd (let bad : ⊥ = cc in bad)
some_default (case ∷ cases) some = go (is_default case) refl some (some_default cases)
  where
    go : (default : Bool) → is_default case ≡ default → default || list_any is_default cases ≡ true
        → (list_any is_default cases ≡ true → SomeDefault cases) → SomeDefault (case ∷ cases)
    go true d some behind = record { case = case; among = graph.first refl; default = d }
    go false d some behind =
        let further = behind some in
        record { case = further.case; among = graph.later further.among; default = further.default }

-- a move by which the graph comes to the fallthrough with the event that no case is chosen
record PastMove (cases : List Case) (fallthrough : BlockId) : Type 0 where
  key : BlockId
  move : Move (ByCase cases fallthrough) (Chose None ∷ []) key
  is_past : key ≡ fallthrough

past_move : {cases kept : List Case} {fallthrough : BlockId} (is_target : Bool) → has_one_default cases ≡ true
    → kept ≡ kept_cases is_target fallthrough cases → list_any is_default kept ≡ false → PastMove cases fallthrough
past_move {cases} {fallthrough = f} is_target one keep none = go (list_any is_default cases) refl
  where
    left_out : list_any is_default (kept_cases is_target f cases) ≡ false
    left_out = sym (ap (list_any is_default) keep) ∙ none

    by_default : SomeDefault cases → PastMove cases f
    by_default d = elim (kept_or_past is_target f d.case cases one d.among) [
      | is_there among ↦ absurd (let bad : ⊥ = cc (in_any among d.default, left_out) in bad)
      | leads_on no_test past none ↦ record {
        key = d.case.block;
        move = graph.to_case d.among (sym no_test) refl;
        is_past = past;
      }
    ]

    go : (some : Bool) → list_any is_default cases ≡ some → PastMove cases f
    go false q = record { key = f; move = graph.past_cases q; is_past = refl }
    go true q = by_default (some_default cases q)

-- a chosen case, and how runs of the graph go on after its block
pub record Chosen (hir : HirFunction) (env : Environment) (context : ListContext) (kept : List Case)
    (chosen : Option Place) (events : List Event) (outcome : Completion) : Type 0 where
  pub case : Case
  pub among : InCases case kept
  pub test : chosen ≡ case.test
  pub after : After hir env context (GraphRunAt hir env case.block) events outcome

module _ {cases kept : List Case} {fallthrough : BlockId} (is_target : Bool)
    (keep : kept ≡ kept_cases is_target fallthrough cases) where
  -- the move to a kept case
  kept_move : {case : Case} {chosen : Option Place} → InCases case kept → chosen ≡ case.test
      → Move (ByCase cases fallthrough) (Chose chosen ∷ []) case.block
  kept_move {case} among same =
      graph.to_case (kept_in_cases is_target fallthrough cases (subst (InCases case) keep among)) same refl

  -- a chosen case, after the label of the switch
  pub chosen_part : {hir : HirFunction} {env : Environment} {label : Option ReactiveLabel} {chosen : Option Place}
      {test : Place} {id : EvaluationOrder} {span : Option Span} {events : List Event} {inner outer : Completion} (opened : Bool) (context : ListContext)
      → label ≡ label_of opened fallthrough → outer ≡ caught_unlabeled label inner
      → Chosen hir env (marked (inside opened (frame_kinds.Switch fallthrough) context)) kept chosen events inner
      → After hir env (leaving opened fallthrough context)
      (GraphRun hir env [] (terminals.Switch test cases fallthrough id span)) (Chose chosen ∷ events) outer
  chosen_part {label = label} {chosen} {inner = inner} opened context l q c =
      after_statement (caught_unlabeled label) (caught_unlabeled-ended label)
      (ahead (Chose chosen ∷ []) c.after refl (λ events end run. graph.moved (kept_move c.among c.test) run refl))
      (aims_switch opened fallthrough context label l inner) q

  -- no kept case is chosen
  pub past_kept : {hir : HirFunction} {env : Environment} {around : ListContext} {parts : Cases} {used : List BlockId}
      {test : Place} {id : EvaluationOrder} {span : Option Span} (opened : Bool) (context : ListContext) → has_one_default cases ≡ true
      → list_any is_default kept || falls_to opened fallthrough context.next ≡ true
      → SpellsCases hir env kept around parts used → has_default parts ≡ false
      → HasNoUnreachableSuccessor hir (terminals.Switch test cases fallthrough id span)
      → After hir env (leaving opened fallthrough context)
      (GraphRun hir env [] (terminals.Switch test cases fallthrough id span)) (Chose None ∷ []) Normal
  past_kept opened context one reach d none moves =
      let no_default = same_default d ∙ none in
      let falls = sym (ap (λ some. some || falls_to opened fallthrough context.next) no_default) ∙ reach in
      let past : PastMove cases fallthrough = past_move is_target one keep no_default in
      past_part opened fallthrough context past.move past.is_past falls moves

-- no kept case ends in `Unreachable`
pub kept_live : {kept : List Case} (is_target : Bool) (cases : List Case) (fallthrough : BlockId)
    → kept ≡ kept_cases is_target fallthrough cases → (hir : HirFunction)
    → list_any (ends_unreachable hir) (blocks (ByCase cases fallthrough)) ≡ false → (case : Case) → InCases case kept
    → ends_unreachable hir case.block ≡ false
kept_live is_target cases fallthrough keep hir moves case among =
    fails_there (ends_unreachable hir) (kept_move {cases = cases} {fallthrough = fallthrough} is_target keep among refl)
    moves

module _ {hir : HirFunction} {env : Environment} where
  -- the chosen case is further on
  pub chosen_further : {context : ListContext} {kept : List Case} {chosen : Option Place} {events : List Event}
      {outcome : Completion} (case : Case) → Chosen hir env context kept chosen events outcome
      → Chosen hir env context (case ∷ kept) chosen events outcome
  chosen_further case c = record { case = c.case; among = graph.later c.among; test = c.test; after = c.after }

  -- the block of a case
  pub at_case : {key : BlockId} {context : ListContext} {part : Statements} {used : List BlockId} {events : List Event}
      {outcome : Completion} (case : Case) → case.block ≡ key → (others : List Case)
      → SpellsList hir env case.block (case_context others context) part used → Fits context
      → ends_unreachable hir key ≡ false → AllAlive hir used
      → Carries hir env (case_context others context) part events outcome
      → After hir env (case_context others context) (GraphRunAt hir env key) events outcome
  at_case {context = context} {part} {used} case same others d fits live alive carries =
      let here = subst (λ b. SpellsList hir env b (case_context others context) part used) same d in
      at_block here (fits_cases others fits) (λ n. live) alive carries

  -- a case, and then the ones into which it falls
  pub falls_on : {context : ListContext} {run : List Event → End → Type 0} {first second all : List Event}
      {outcome : Completion} (others : List Case) → After hir env (case_context others context) run first Normal
      → ((key : BlockId) → (case_context others context).next ≡ Some key → ends_unreachable hir key ≡ false
      → After hir env context (GraphRunAt hir env key) second outcome) → all ≡ first ++ second
      → After hir env context run all outcome
  falls_on {first = first} others (leads {key = key} aim live go) on q =
      ahead first (on key aim live) q (λ events end run. go events end run)

  -- a case that is left
  pub out_of_case : {context : ListContext} {run : List Event → End → Type 0} {events : List Event}
      {outcome : Completion} (others : List Case) → leaves outcome ≡ true
      → After hir env (case_context others context) run events outcome → After hir env context run events outcome
  out_of_case {context} {outcome = outcome} others l after =
      redirect after (λ key aim. aims_cases others context outcome key l aim) (λ end e. e)
