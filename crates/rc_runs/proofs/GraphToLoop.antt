-- A run of the graph from a place in a loop is a run of the loop, or leads out of it.
use Rattle.std.proofs.Common.{◌≡◌, ℕ, ◌<◌, ◌≤◌, true, false, List, [], ◌∷◌, ◌++◌, Option, None, refl, sym, ap, ◌∙◌}
use Rattle.std.proofs.Common.{subst, append_assoc, arith}
use Rattle.rc_names.specs.Numbers.{BlockId}
use Rattle.rc_hir.specs.Model.{HirFunction, Environment}
use Rattle.rc_runs.specs.Event.{Event, Arm, End}
use Rattle.rc_runs.specs.GraphRun.{GraphRunAt}
use Rattle.rc_runs.specs.PlainTree.{Value}
use Rattle.rc_tree.specs.Model.{ReactiveLabel}
use Rattle.rc_runs.specs.ListContext.{ListContext, inside}
use Rattle.rc_runs.specs.LoopParts.{LoopBlocks, LoopParts, first_of, turn_start, loop_frame}
use Rattle.rc_runs.specs.Grammar.{SpellsBefore, no_value, some_value, SpellsTurns, turns}
use Rattle.rc_runs.specs.Completion.{Completion, Ended}
use Rattle.rc_runs.specs.BodyRun.{Spot, AtTurn, AtTest, AtBody, RunsList, RunsLoop, nothing_before, in_before}
use Rattle.rc_runs.specs.BodyRun.{past_before, in_test, test_fails, test_holds, next_turn, leaves_loop}
use Rattle.rc_runs.proofs.FramesLemmas.{Fits, fits_inside, leaving, loop_label, Rounded, to_turn, out_of_loop, rounded}
use Rattle.rc_runs.proofs.RunSize.{size_at, run_to}
use Rattle.rc_runs.proofs.HandlerLemmas.{can_end}
use Rattle.rc_runs.proofs.Throws.{throw_behind, throw_room}
use Rattle.rc_runs.proofs.Passes.{Goes, stays_inside, goes, throws_inside, Chooses, stays_in_test, holds, fails}
use Rattle.rc_runs.proofs.Passes.{throws_in_test}
use Rattle.rc_runs.proofs.GraphToValue.{passes_going, passes_test}
use Rattle.rc_runs.proofs.Leads.{Leads, ends, leads, to_handler, Below, lead_events, lead_behind}

-- a run of the graph that begins at a place in the loop
abbrev pub LoopLeads : (hir : HirFunction) → Environment → ℕ → LoopBlocks → ListContext → LoopParts → Spot
    → List Event → End → Type 0
LoopLeads hir env bound blocks context parts spot events end =
    Leads hir env (leaving true blocks.fallthrough context) bound (RunsLoop env (loop_label blocks) parts spot) events
    end

module _ {hir : HirFunction} {env : Environment} {bound : ℕ} {blocks : LoopBlocks} {context : ListContext}
    {parts : LoopParts} where
  -- from the body on
  pub body_leads : {used : List BlockId} {events : List Event} {end : End} → Below hir env bound
      → SpellsTurns hir env blocks context parts used → Fits context
      → (run : GraphRunAt hir env blocks.body events end) → size_at run < bound
      → LoopLeads hir env bound blocks context parts AtBody events end
  body_leads {events = events} {end} below (turns apart again test first body w) fits run small =
      go (below.list body (fits_inside true (loop_frame blocks) refl apart fits) run small)
    where
      out : {front back : List Event} {outcome : Completion} {key : BlockId} → RunsList env parts.body front outcome →
          (run : GraphRunAt hir env key back end) → size_at run < bound → events ≡ front ++ back →
          Rounded blocks context outcome key → LoopLeads hir env bound blocks context parts AtBody events end
      out {front = front} here run small e (to_turn again_here same) =
          let from = run_to same run small in
          lead_events e (lead_behind front (λ events outcome after. next_turn here again_here after refl)
          (below.turn (turns apart again test first body w) fits from.0 from.1))
      out here run small e (out_of_loop leaves_here aim) = leads (leaves_loop here leaves_here refl) aim run small e

      go : Leads hir env (inside true (loop_frame blocks) context) bound (RunsList env parts.body) events end
          → LoopLeads hir env bound blocks context parts AtBody events end
      go (ends here can) = ends (leaves_loop here refl refl) can
      go (to_handler t) = to_handler (throw_behind [] (λ events here. leaves_loop here refl refl) t)
      go (leads {outcome = outcome} {key} here aim run small e) =
          out here run small e (rounded blocks context outcome key aim)

  -- from the test on
  pub test_leads : {used : List BlockId} {events : List Event} {end : End} → Below hir env bound
      → SpellsTurns hir env blocks context parts used → Fits context
      → (run : GraphRunAt hir env blocks.test events end) → size_at run ≤ bound
      → LoopLeads hir env bound blocks context parts AtTest events end
  test_leads {events = events} {end} below (turns apart again test first body w) fits run small =
      go (passes_test test run)
    where
      go : Chooses hir env context.handler parts.test blocks.body blocks.fallthrough (size_at run) events end
          → LoopLeads hir env bound blocks context parts AtTest events end
      go (stays_in_test here e) =
          ends (subst (λ z. RunsLoop env (loop_label blocks) parts AtTest events (Ended z)) (sym e) (in_test here))
          (ap (λ z. can_end z context.handler) e)
      go (throws_in_test t) = to_handler (throw_room small (throw_behind [] (λ events here. in_test here) t))
      go (fails {front = front} {back} here from less e) =
          leads (test_fails here refl refl) refl from (omega arith) (e ∙ sym (append_assoc front (Arm false ∷ []) back))
      go (holds {front = front} {back} here from less e) =
          lead_events (e ∙ sym (append_assoc front (Arm true ∷ []) back)) (lead_behind (front ++ Arm true ∷ [])
          (λ events outcome after. test_holds here refl after (append_assoc front (Arm true ∷ []) events))
          (body_leads below (turns apart again test first body w) fits from (omega arith)))

  before_leads : {key : Option BlockId} {value : Option Value} {used : List BlockId} {events : List Event} {end : End}
      → SpellsBefore hir env blocks context key value used → parts.before ≡ value
      → (run : GraphRunAt hir env (first_of key blocks.test) events end) → size_at run ≤ bound
      → ((events : List Event) (run : GraphRunAt hir env blocks.test events end) → size_at run ≤ bound
      → LoopLeads hir env bound blocks context parts AtTest events end)
      → LoopLeads hir env bound blocks context parts AtTurn events end
  before_leads no_value e run small go =
      lead_behind [] (λ events outcome after. nothing_before e after) (go _ run small)
  before_leads {events = events} {end} (some_value {value = value} spelled) e run small go =
      by (passes_going spelled run)
    where
      by : Goes hir env context.handler value blocks.test (size_at run) events end
          → LoopLeads hir env bound blocks context parts AtTurn events end
      by (stays_inside here q) =
          ends (subst (λ z. RunsLoop env (loop_label blocks) parts AtTurn events (Ended z)) (sym q) (in_before e here))
          (ap (λ z. can_end z context.handler) q)
      by (throws_inside t) = to_handler (throw_room small (throw_behind [] (λ events here. in_before e here) t))
      by (goes {front = front} here from less q) =
          lead_events q (lead_behind front (λ events outcome after. past_before e here refl after refl)
          (go _ from (omega arith)))

  -- from the start of a turn on
  pub turn_leads : {used : List BlockId} {events : List Event} {end : End} → Below hir env bound
      → SpellsTurns hir env blocks context parts used → Fits context
      → (run : GraphRunAt hir env (turn_start blocks) events end) → size_at run ≤ bound
      → LoopLeads hir env bound blocks context parts AtTurn events end
  turn_leads below (turns apart again test first body w) fits run small =
      before_leads first refl run small
      (λ events run small. test_leads below (turns apart again test first body w) fits run small)

-- a loop whose turns begin with the test has no value before it
no_value_there : {hir : HirFunction} {env : Environment} {blocks : LoopBlocks} {context : ListContext}
    {key : Option BlockId} {value : Option Value} {used : List BlockId}
    → SpellsBefore hir env blocks context key value used → key ≡ None → value ≡ None
no_value_there no_value e = refl
no_value_there (some_value spelled) e = absurd (let bad : ⊥ = cc in bad)

pub nothing_first : {hir : HirFunction} {env : Environment} {blocks : LoopBlocks} {context : ListContext}
    {parts : LoopParts} {used : List BlockId} → SpellsTurns hir env blocks context parts used → blocks.before ≡ None
    → parts.before ≡ None
nothing_first (turns apart again test first body w) e = no_value_there first e

-- a run of a loop whose value before the test is known
pub loop_with : {env : Environment} {label : Option ReactiveLabel} {parts : LoopParts} {spot : Spot}
    {events : List Event} {outcome : Completion} (first : Option Value) → parts.before ≡ first
    → RunsLoop env label parts spot events outcome
    → RunsLoop env label (record { before = first; test = parts.test; body = parts.body }) spot events outcome
loop_with {env} {label} {parts} {spot} {events} {outcome} first e run =
    subst (λ v. RunsLoop env label (record { before = v; test = parts.test; body = parts.body }) spot events outcome) e
    run
