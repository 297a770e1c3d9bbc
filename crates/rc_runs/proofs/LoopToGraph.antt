-- How runs of the graph go on after the parts of a loop.
use Rattle.std.proofs.Common.{◌≡◌, List, [], ◌∷◌, ◌++◌, true, false, Option, Some, None, refl, sym, ap, ◌∙◌, subst}
use Rattle.std.proofs.Common.{append_assoc}
use Rattle.rc_names.specs.Numbers.{BlockId}
use Rattle.rc_hir.specs.Model.{HirFunction, Environment}
use Rattle.rc_runs.specs.Event.{Event, Arm, End}
use Rattle.rc_runs.specs.Graph.{ends_unreachable}
use Rattle.rc_runs.specs.GraphRun.{then_arm, else_arm, GraphRunAt}
use Rattle.rc_runs.specs.PlainTree.{Value}
use Rattle.rc_runs.specs.ListContext.{ListContext, inside, value_context}
use Rattle.rc_runs.specs.LoopParts.{LoopBlocks, LoopParts, first_of, turn_start, loop_frame}
use Rattle.rc_runs.specs.LoopValues.{SpellsGoing, SpellsTest}
use Rattle.rc_runs.specs.Grammar.{SpellsList, SpellsBefore, no_value, some_value, SpellsTurns, turns}
use Rattle.rc_runs.specs.ValueRun.{Progress, goes_past, RunsValue}
use Rattle.rc_runs.specs.Completion.{Completion, Normal, turns_again, caught_unlabeled}
use Rattle.rc_runs.specs.BodyRun.{Spot, AtTurn, AtTest, AtBody}
use Rattle.rc_runs.proofs.FramesLemmas.{Fits, fits_inside, Aims, leaving, loop_label, to_turn, out_of_loop, rounded}
use Rattle.rc_runs.proofs.ValueToGraph.{test_chooses}
use Rattle.rc_runs.proofs.AliveBlocks.{AllAlive, alive_front, alive_behind, test_alive}
use Rattle.rc_runs.proofs.AfterParts.{After, ends, leads, ahead, redirect}

-- the parts of a loop as they are spelled, with what runs of the graph need of them
pub record Looped (hir : HirFunction) (env : Environment) (blocks : LoopBlocks) (context : ListContext)
    (parts : LoopParts) : Type 0 where
  pub test_used : List BlockId
  pub before_used : List BlockId
  pub body_used : List BlockId
  pub test : SpellsTest hir env blocks.flat blocks.test (value_context blocks.span context) blocks.body
      blocks.fallthrough parts.test test_used
  pub before : SpellsBefore hir env blocks context blocks.before parts.before before_used
  pub body : SpellsList hir env blocks.body (inside true (loop_frame blocks) context) parts.body body_used
  pub fits : Fits (inside true (loop_frame blocks) context)
  pub body_live : ends_unreachable hir blocks.body ≡ false
  pub end_live : ends_unreachable hir blocks.fallthrough ≡ false
  pub alive : AllAlive hir body_used

-- the block at a place in the loop
abbrev pub spot_block : LoopBlocks → Spot → BlockId
spot_block blocks AtTurn = turn_start blocks
spot_block blocks AtTest = blocks.test
spot_block blocks AtBody = blocks.body

module _ {hir : HirFunction} {env : Environment} {blocks : LoopBlocks} {context : ListContext} where
  pub looped : {parts : LoopParts} {used : List BlockId} → SpellsTurns hir env blocks context parts used
      → Fits context → AllAlive hir used → Looped hir env blocks context parts
  looped (turns {test_used = u} {before_used = v} {body_used = w} apart turn_apart test before body e) fits alive =
      let live = test_alive hir test (alive_front hir u (v ++ w) e alive) in record {
        test_used = u;
        before_used = v;
        body_used = w;
        test = test;
        before = before;
        body = body;
        fits = fits_inside true (loop_frame blocks) refl apart fits;
        body_live = live.0;
        end_live = live.1;
        alive = alive_behind hir v w refl (alive_behind hir u (v ++ w) e alive);
      }

  -- the same where the value before the test is known
  pub with_before : {parts : LoopParts} (before : Option Value) → parts.before ≡ before
      → Looped hir env blocks context parts
      → Looped hir env blocks context (record { before = before; test = parts.test; body = parts.body })
  with_before {parts} before e k =
      subst (λ b. Looped hir env blocks context (record { before = b; test = parts.test; body = parts.body })) e k

  pub before_none : {before : Option Value} {used : List BlockId} → SpellsBefore hir env blocks context None before used
      → before ≡ None
  before_none no_value = refl

  -- a turn begins with the test
  pub turn_is_test : {start : Option BlockId} {before : Option Value} {used : List BlockId}
      → SpellsBefore hir env blocks context start before used → before ≡ None
      → first_of start blocks.test ≡ blocks.test
  turn_is_test no_value e = refl
  turn_is_test (some_value going) e = absurd (let bad : ⊥ = cc in bad)

  -- a turn begins with a value
  pub turn_going : {start : Option BlockId} {before : Option Value} {value : Value} {used : List BlockId}
      → SpellsBefore hir env blocks context start before used → before ≡ Some value
      → SpellsGoing hir env blocks.flat (first_of start blocks.test) (value_context blocks.span context) blocks.test
      value used
  turn_going no_value e = absurd (let bad : ⊥ = cc in bad)
  turn_going {value = value} {used} (some_value {key = key} {value = own} going) e =
      subst (λ v. SpellsGoing hir env blocks.flat key (value_context blocks.span context) blocks.test v used)
      (let same : own ≡ value = cc in same) going

  -- past the test into the body
  pub into_body : {parts : LoopParts} {first second events : List Event} {progress : Progress} {outcome : Completion}
      → Looped hir env blocks context parts → RunsValue env false parts.test first progress
      → goes_past progress ≡ true → After hir env (leaving true blocks.fallthrough context)
      (GraphRunAt hir env blocks.body) second outcome → events ≡ first ++ (Arm true ∷ second)
      → After hir env (leaving true blocks.fallthrough context) (GraphRunAt hir env blocks.test) events outcome
  into_body {first = first} {second} k run past after q =
      ahead (first ++ Arm true ∷ []) after (q ∙ sym (append_assoc first (Arm true ∷ []) second)) (λ events end r.
      subst (λ l. GraphRunAt hir env blocks.test l end) (sym (append_assoc first (Arm true ∷ []) events))
      (test_chooses k.test run past then_arm r))

  -- past the test out of the loop
  pub out_by_test : {parts : LoopParts} {first events : List Event} {progress : Progress}
      → Looped hir env blocks context parts → RunsValue env false parts.test first progress
      → goes_past progress ≡ true → events ≡ first ++ Arm false ∷ []
      → After hir env (leaving true blocks.fallthrough context) (GraphRunAt hir env blocks.test) events Normal
  out_by_test {first = first} k run past q = leads refl k.end_live (λ more end r.
      let regrouped = sym (append_assoc first (Arm false ∷ []) more) ∙ ap (λ l. l ++ more) (sym q) in
      subst (λ l. GraphRunAt hir env blocks.test l end) regrouped (test_chooses k.test run past else_arm r))

-- past the body, into the next turn
pub around_again : {hir : HirFunction} {env : Environment} (blocks : LoopBlocks) (context : ListContext)
    {key : BlockId} {events more : List Event} {outcome : Completion} {end : End}
    → turns_again (loop_label blocks) outcome ≡ true
    → After hir env (inside true (loop_frame blocks) context) (GraphRunAt hir env key) events outcome
    → GraphRunAt hir env (turn_start blocks) more end → GraphRunAt hir env key (events ++ more) end
around_again blocks context again (ends run) behind = absurd (let bad : ⊥ = cc in bad)
around_again {hir} {env} blocks context {more = more} {outcome} {end} again (leads {key = key} aim live go) behind =
    elim (rounded blocks context outcome key aim) [
      | to_turn h same ↦ go more end (subst (λ b. GraphRunAt hir env b more end) (sym same) behind)
      | out_of_loop h out ↦ absurd (let bad : ⊥ = cc in bad)
    ]

-- past the body, out of the loop
pub out_by_body : {hir : HirFunction} {env : Environment} (blocks : LoopBlocks) (context : ListContext)
    {key : BlockId} {events : List Event} {outcome outer : Completion}
    → turns_again (loop_label blocks) outcome ≡ false → outer ≡ caught_unlabeled (loop_label blocks) outcome
    → After hir env (inside true (loop_frame blocks) context) (GraphRunAt hir env key) events outcome
    → After hir env (leaving true blocks.fallthrough context) (GraphRunAt hir env key) events outer
out_by_body blocks context {outcome = outcome} {outer} left q after =
    redirect after aims (λ end e. q ∙ ap (caught_unlabeled (loop_label blocks)) e)
  where
    aims : (key : BlockId) → Aims (inside true (loop_frame blocks) context) outcome key
        → Aims (leaving true blocks.fallthrough context) outer key
    aims key aim = elim (rounded blocks context outcome key aim) [
      | to_turn h same ↦ absurd (let bad : ⊥ = cc in bad)
      | out_of_loop h out ↦ subst (λ o. Aims (leaving true blocks.fallthrough context) o key) (sym q) out
    ]
