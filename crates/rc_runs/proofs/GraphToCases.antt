-- A run of the graph from a kept case of a switch runs that case and those after it, or leads out of them.
use Rattle.std.proofs.Common.{◌≡◌, ℕ, ◌<◌, true, List, [], ◌++◌, Option, refl, sym, ap, ◌∙◌, subst, ◌⊎◌, inl, inr}
use Rattle.rc_names.specs.Numbers.{BlockId}
use Rattle.rc_hir.specs.Model.{Place, Case, HirFunction, Environment}
use Rattle.rc_runs.specs.Event.{Event, End}
use Rattle.rc_runs.specs.GraphRun.{InCases, first, later, GraphRunAt}
use Rattle.rc_runs.specs.PlainTree.{Statements, Present, Cases, Case as TreeCase}
use Rattle.rc_runs.specs.ListContext.{ListContext}
use Rattle.rc_runs.specs.SwitchCases.{case_context}
use Rattle.rc_runs.specs.Grammar.{SpellsList, SpellsCases, no_cases, one_case}
use Rattle.rc_runs.specs.Completion.{Completion, Normal, leaves}
use Rattle.rc_runs.specs.BodyRun.{RunsList, RunsCases, RunsChosen, present, no_more_cases, falls_into, leaves_case}
use Rattle.rc_runs.specs.BodyRun.{chosen_here, chosen_later}
use Rattle.rc_runs.proofs.FramesLemmas.{Fits, fits_cases, Aims, aims_cases, by_leaves}
use Rattle.rc_runs.proofs.RunSize.{size_at, run_to}
use Rattle.rc_runs.proofs.HandlerLemmas.{cases-handler, can_end}
use Rattle.rc_runs.proofs.Throws.{throw_behind, throw_under}
use Rattle.rc_runs.proofs.Leads.{Leads, ends, leads, to_handler, Below, lead_events, lead_behind}

-- a run of the graph that begins at cases of a switch
abbrev CasesLead : (hir : HirFunction) → Environment → ℕ → ListContext → Cases → List Event → End → Type 0
CasesLead hir env bound context cases events end = Leads hir env context bound (RunsCases env cases) events end

module _ {hir : HirFunction} {env : Environment} {bound : ℕ} (below : Below hir env bound) {context : ListContext}
    (fits : Fits context) where
  -- from a case on, with these cases after it
  case_leads : (others : List Case) {key : BlockId} {test : Option Place} {part : Statements} {cases : Cases}
      {used : List BlockId} {events : List Event} {end : End}
      → SpellsList hir env key (case_context others context) part used
      → ((key : BlockId) (events : List Event) → Aims (case_context others context) Normal key
      → (run : GraphRunAt hir env key events end) → size_at run < bound
      → CasesLead hir env bound context cases events end)
      → (run : GraphRunAt hir env key events end) → size_at run < bound
      → CasesLead hir env bound context (TreeCase test (Present part) cases) events end
  case_leads others {test = test} {part = part} {cases = cases} {events = events} {end = end} d behind run small =
      go (below.list d (fits_cases others fits) run small)
    where
      out : {front back : List Event} {outcome : Completion} {key : BlockId} → RunsList env part front outcome →
          Aims (case_context others context) outcome key → (run : GraphRunAt hir env key back end) →
          size_at run < bound → events ≡ front ++ back → (outcome ≡ Normal) ⊎ (leaves outcome ≡ true) →
          CasesLead hir env bound context (TreeCase test (Present part) cases) events end
      out {front = front} {back = back} {key = key} here aim run small e (inl n) =
          lead_events e (lead_behind front (λ events outcome after.
          falls_into (present (subst (RunsList env part front) n here)) after refl)
          (behind key back (subst (λ o. Aims (case_context others context) o key) n aim) run small))
      out {outcome = outcome} {key} here aim run small e (inr l) =
          leads (leaves_case (present here) l) (aims_cases others context outcome key l aim) run small e

      go : Leads hir env (case_context others context) bound (RunsList env part) events end
          → CasesLead hir env bound context (TreeCase test (Present part) cases) events end
      go (ends here can) =
          ends (leaves_case (present here) refl) (sym (ap (can_end end) (cases-handler others context)) ∙ can)
      go (to_handler t) = to_handler (throw_under (cases-handler others context)
          (throw_behind [] (λ events here. leaves_case (present here) refl) t))
      go (leads {outcome = outcome} here aim run small e) = out here aim run small e (by_leaves outcome)

  -- after a case that falls off its end, with these cases after it
  next_leads : {kept : List Case} {cases : Cases} {used : List BlockId} {key : BlockId} {events : List Event}
      {end : End} → SpellsCases hir env kept context cases used → Aims (case_context kept context) Normal key
      → (run : GraphRunAt hir env key events end) → size_at run < bound
      → CasesLead hir env bound context cases events end
  next_leads no_cases aim run small = leads no_more_cases aim run small refl
  next_leads {key = key} (one_case {case = case} {later = others} d part w) aim run small =
      let from = run_to (let same : key ≡ case.block = cc in same) run small in
      case_leads others part (λ key events aim run small. next_leads d aim run small) from.0 from.1

  -- from the chosen case on
  pub chosen_leads : {case : Case} {kept : List Case} {cases : Cases} {used : List BlockId} {events : List Event}
      {end : End} → InCases case kept → SpellsCases hir env kept context cases used
      → (run : GraphRunAt hir env case.block events end) → size_at run < bound
      → Leads hir env context bound (RunsChosen env case.test cases) events end
  chosen_leads {cases = cases} {events = events} {end} (first same) (one_case {later = others} d part w) run small =
      subst (λ (c : Case). (run : GraphRunAt hir env c.block events end) → size_at run < bound
      → Leads hir env context bound (RunsChosen env c.test cases) events end) (sym same)
      (λ run small. lead_behind [] (λ events outcome here. chosen_here here)
      (case_leads others part (λ key events aim run small. next_leads d aim run small) run small)) run small
  chosen_leads (later among) (one_case d part w) run small =
      lead_behind [] (λ events outcome here. chosen_later here) (chosen_leads among d run small)
