-- Where a run of the graph leads that begins at a value terminal, by where the runs of its parts lead.
use Rattle.std.proofs.Common.{◌≡◌, ℕ, ◌<◌, ◌≤◌, Bool, true, false, List, [], ◌∷◌, ◌++◌, Option, Some, refl, sym}
use Rattle.std.proofs.Common.{ap, ◌∙◌, append_assoc, append-nil, arith, ◌⊎◌, inl, inr}
use Rattle.rc_names.specs.Numbers.{BlockId, EvaluationOrder}
use Rattle.rc_names.specs.declared.span.Span.{Span}
use Rattle.rc_hir.specs.Model.{Place, LogicalOperator, Terminal, HirFunction, Environment}
use Rattle.rc_hir.specs.declared.terminal.Terminal.TheVariants as terminals
use Rattle.rc_runs.specs.Event.{Event, Arm, End}
use Rattle.rc_runs.specs.Silent.{is_unset}
use Rattle.rc_runs.specs.GraphRun.{then_arm, else_arm, GraphRunAt, GraphRun, stopped, moved}
use Rattle.rc_runs.specs.PlainTree.{Value, Logical, Conditional, Sequence, Optional, NoRows, Row}
use Rattle.rc_runs.specs.ShortArms.{SpellsSilentArm, SpellsShortArm}
use Rattle.rc_runs.specs.ValueGrammar.{Nested, SpellsNested}
use Rattle.rc_runs.specs.ValueRun.{Progress, Done, Short, goes_past_row, is_row_of_test, RunsValue, in_sequence}
use Rattle.rc_runs.specs.ValueRun.{in_condition, took_consequent, took_alternate, in_left, left_decides, took_right}
use Rattle.rc_runs.specs.ValueRun.{in_optional_test, took_short_end, took_rest, RunsRows, past_rows, past_row, in_row}
use Rattle.rc_runs.specs.ValueRun.{set_row}
use Rattle.rc_runs.proofs.RunSize.{size, size_at}
use Rattle.rc_runs.proofs.FlattenedRuns.{inside_stays, value_stops}
use Rattle.rc_runs.proofs.RowRuns.{done_goes_past}
use Rattle.rc_runs.proofs.OneValue.{row_answers}
use Rattle.rc_runs.proofs.ShortArmLemmas.{row_of_test}
use Rattle.rc_runs.proofs.ShortEnds.{by_arm, short_end_keeps}
use Rattle.rc_runs.proofs.Throws.{AtBlock, throws_there, throw_behind}
use Rattle.rc_runs.proofs.GraphToSilentArm.{PassesArm, comes_behind, throws_in_arm, past_arm}
use Rattle.rc_runs.proofs.Passes.{AtLast, Passes, stops, passes, shortens, throws_out, Goes, stays_inside, goes}
use Rattle.rc_runs.proofs.Passes.{throws_inside, Chooses, stays_in_test, holds, fails, throws_in_test, pass_behind}
use Rattle.rc_runs.proofs.Passes.{goes_behind, pass_events, goes_events, goes_past}

-- the runs of a row that holds a value terminal, and of the value after it
abbrev RunsNestedRow : Environment → Bool → Nested → Option Span → Value → List Event → Progress → Type 0
RunsNestedRow env is_test nested span value =
    RunsRows env is_test (Row nested.id (Some nested.answer) nested.value span NoRows) value

-- each shorter run of the graph from an arm stays in the arm's value, goes on at the next block, or throws in the value
abbrev pub GoesFrom : (hir : HirFunction) → Environment → Option BlockId → BlockId → Value → BlockId → ℕ → Type 0
GoesFrom hir env handler key value next bound =
    (events : List Event) (end : End) (run : GraphRunAt hir env key events end) → size_at run < bound
    → Goes hir env handler value next bound events end

-- a run of the graph that begins at a value terminal
abbrev pub NestedPasses : (hir : HirFunction) → Environment → Option BlockId → ℕ → Nested → List Event → End → Type 0
NestedPasses hir env handler bound nested events end =
    Passes hir env handler (RunsValue env false nested.value) nested.short (AtBlock hir env nested.fallthrough bound)
    bound events end

-- the test of a logical, and its silent consequent, as its left part
left_done : {env : Environment} {id last : EvaluationOrder} {target : Option Place} {test value : Value}
    {span : Option Span} {events : List Event} → is_unset id ≡ false → RunsValue env false test events Done
    → RunsValue env false value [] Done
    → RunsValue env false (Sequence (Row id target test span NoRows) last value) events Done
left_done {events = events} set here quiet =
    in_sequence (past_row (set_row set here) refl (past_rows quiet) (sym (append-nil events)))

module _ {hir : HirFunction} {env : Environment} {handler : Option BlockId} {bound : ℕ} {next : BlockId} where
  -- an arm after the test of a conditional
  pub conditional_goes : {test value other : Value} {consequent alternate : BlockId} {events : List Event} {end : End}
      → Chooses hir env handler test consequent alternate bound events end
      → GoesFrom hir env handler consequent value next bound → GoesFrom hir env handler alternate other next bound
      → Goes hir env handler (Conditional test value other) next bound events end
  conditional_goes (stays_in_test here e) one two = stays_inside (in_condition here) e
  conditional_goes (throws_in_test t) one two = throws_inside (throw_behind [] (λ events here. in_condition here) t)
  conditional_goes {end = end} (holds {front = front} {back} here run small e) one two =
      goes_events (e ∙ sym (append_assoc front (Arm true ∷ []) back)) (goes_behind (front ++ Arm true ∷ [])
      (λ events progress arm. took_consequent here refl arm refl (append_assoc front (Arm true ∷ []) events))
      (one back end run small))
  conditional_goes {end = end} (fails {front = front} {back} here run small e) one two =
      goes_events (e ∙ sym (append_assoc front (Arm false ∷ []) back)) (goes_behind (front ++ Arm false ∷ [])
      (λ events progress arm. took_alternate here refl arm refl (append_assoc front (Arm false ∷ []) events))
      (two back end run small))

  -- a logical whose consequent has no events
  pub logical_goes : {operator : LogicalOperator} {id last : EvaluationOrder} {target : Option Place}
      {test value other : Value} {span : Option Span} {consequent alternate : BlockId} {arm_used : List BlockId}
      {events : List Event} {end : End} → is_unset id ≡ false → RunsValue env false value [] Done
      → SpellsSilentArm hir env handler next consequent arm_used
      → Chooses hir env handler test consequent alternate bound events end
      → GoesFrom hir env handler alternate other next bound
      → Goes hir env handler (Logical operator (Sequence (Row id target test span NoRows) last value) other) next bound
      events end
  logical_goes set quiet arm (stays_in_test here e) two =
      stays_inside (in_left (in_sequence (in_row (set_row set here) refl))) e
  logical_goes set quiet arm (throws_in_test t) two =
      throws_inside (throw_behind [] (λ events here. in_left (in_sequence (in_row (set_row set here) refl))) t)
  logical_goes {operator} {id} {last} {target} {test} {value} {other} {span} {events = events} {end = end} set quiet arm
      (holds {front = front} {back} here run small e) two =
      by (past_arm arm run small)
    where
      by : PassesArm hir env handler next bound back end
          → Goes hir env handler (Logical operator (Sequence (Row id target test span NoRows) last value) other) next
          bound events end
      by (comes_behind at) =
          goes {front = front ++ Arm true ∷ []} (left_decides (left_done set here quiet) refl refl refl) at.run at.small
          (e ∙ sym (append_assoc front (Arm true ∷ []) back))
      by (throws_in_arm current at q) =
          throws_inside (throws_there (front ++ Arm true ∷ []) (left_decides (left_done set here quiet) refl refl refl)
          current at (e ∙ sym (append_assoc front (Arm true ∷ []) back)) q)
  logical_goes {end = end} set quiet arm (fails {front = front} {back} here run small e) two =
      goes_events (e ∙ sym (append_assoc front (Arm false ∷ []) back)) (goes_behind (front ++ Arm false ∷ [])
      (λ events progress right.
      took_right (left_done set here quiet) refl right refl (append_assoc front (Arm false ∷ []) events))
      (two back end run small))

  -- past the test of an optional: its rest, or its short end
  optional_chooses : {id last : EvaluationOrder} {place answer : Place} {test value : Value} {span : Option Span}
      {optional : Bool} {consequent alternate : BlockId} {branch : EvaluationOrder} {branch_span : Option Span}
      {front back : List Event} {end : End} → is_unset id ≡ false → RunsValue env true test front Done
      → (run : GraphRun hir env [] (terminals.Branch place consequent alternate branch branch_span) back end)
      → size run ≤ bound → GoesFrom hir env handler consequent value next bound
      → Passes hir env handler
      (RunsValue env false (Optional (Sequence (Row id (Some answer) test span NoRows) last value) optional))
      (Some alternate) (AtBlock hir env next bound) bound (front ++ back) end
  unfolding size
  optional_chooses {front = front} set here stopped small rest =
      pass_events (append-nil front) (stops (in_optional_test (set_row set (value_stops here)) refl) refl)
  optional_chooses {front = front} {end = end} set here (moved {events = back} then_arm run q) small rest =
      pass_events (ap (λ v. front ++ v) q ∙ sym (append_assoc front (Arm true ∷ []) back))
      (goes_past (goes_behind (front ++ Arm true ∷ [])
      (λ events progress arm. took_rest (set_row set here) arm refl (append_assoc front (Arm true ∷ []) events))
      (rest back end run (omega arith))))
  optional_chooses {front = front} set here (moved {events = back} else_arm run q) small rest =
      shortens {front = front ++ Arm false ∷ []} (took_short_end (set_row set here) refl refl) refl
      (record { run = run; small = omega arith }) (ap (λ v. front ++ v) q
      ∙ sym (append_assoc front (Arm false ∷ []) back))

  pub optional_passes : {id last : EvaluationOrder} {place answer : Place} {test value : Value} {span : Option Span}
      {optional : Bool} {left_open : Option BlockId} {consequent alternate : BlockId} {branch : EvaluationOrder}
      {branch_span : Option Span} {events : List Event} {end : End} → is_unset id ≡ false
      → ((key : BlockId) → left_open ≡ Some key → alternate ≡ key)
      → Passes hir env handler (RunsValue env true test) left_open
      (AtLast hir env (terminals.Branch place consequent alternate branch branch_span) bound) bound events end
      → GoesFrom hir env handler consequent value next bound
      → Passes hir env handler
      (RunsValue env false (Optional (Sequence (Row id (Some answer) test span NoRows) last value) optional))
      (Some alternate) (AtBlock hir env next bound) bound events end
  optional_passes set same (stops here e) rest = stops (in_optional_test (set_row set here) refl) e
  optional_passes set same (passes here at e) rest =
      pass_events e (optional_chooses set here at.run at.small rest)
  optional_passes set same (shortens {alternate = key} here left at e) rest =
      shortens (in_optional_test (set_row set here) refl) (ap Some (same key left)) at e
  optional_passes set same (throws_out t) rest =
      throws_out (throw_behind [] (λ events here. in_optional_test (set_row set here) refl) t)

module _ {hir : HirFunction} {env : Environment} {handler : Option BlockId} {bound : ℕ}
    {Behind : List Event → End → Type 0} {is_test : Bool} {value : Value} where
  -- what the value after the row leaves open where it has a short end, the whole leaves open too
  left_open_as : {left_open other : Option BlockId} {events : List Event} {end : End}
      → ((events : List Event) → RunsValue env is_test value events Short → other ≡ left_open)
      → Passes hir env handler (RunsValue env is_test value) left_open Behind bound events end
      → Passes hir env handler (RunsValue env is_test value) other Behind bound events end
  left_open_as same (stops here e) = stops here e
  left_open_as same (passes here behind e) = passes here behind e
  left_open_as same (shortens {front = front} here left at e) = shortens here (same front here ∙ left) at e
  left_open_as same (throws_out t) = throws_out t

module _ {hir : HirFunction} {env : Environment} {handler : Option BlockId} {bound : ℕ}
    {Behind : List Event → End → Type 0} {is_test : Bool} {nested : Nested} {value : Value} {span : Option Span} where
  -- a row that holds a value terminal, and then the value after it, at its fallthrough
  pub nested_row_passes : {terminal : Terminal} {behind_open left_open : Option BlockId}
      {nested_used arm_used : List BlockId} {events : List Event} {end : End} → is_unset nested.id ≡ false
      → SpellsNested hir env handler terminal nested nested_used
      → SpellsShortArm hir env handler nested.fallthrough (row_answers env is_test nested value) nested.short
      behind_open left_open arm_used
      → ((events : List Event) (end : End) (run : GraphRunAt hir env nested.fallthrough events end)
      → size_at run < bound
      → Passes hir env handler (RunsValue env is_test value) behind_open Behind bound events end)
      → NestedPasses hir env handler bound nested events end
      → Passes hir env handler (RunsNestedRow env is_test nested span value) left_open Behind bound events end
  nested_row_passes {left_open = left_open} {arm_used = arm_used} {events} {end} set d arm behind it = go it
    where
      -- the row is done, or its short end is its end
      on : {progress : Progress} {front back : List Event}
          → goes_past_row (is_row_of_test env is_test (Some nested.answer) nested.value NoRows value) progress ≡ true
          → RunsValue env false nested.value front progress
          → (run : GraphRunAt hir env nested.fallthrough back end) → size_at run < bound → events ≡ front ++ back
          → Passes hir env handler (RunsNestedRow env is_test nested span value) left_open Behind bound events end
      on {front = front} {back} past here run small e =
          pass_events e (pass_behind front
          (λ events progress next. past_row (set_row set here) past (past_rows next) refl)
          (left_open_as (λ events short. short_end_keeps is_test nested value arm short) (behind back end run small)))

      -- the short end answers the test, or leads through the row's own arm
      out : {front back : List Event} {alternate : BlockId} → RunsValue env false nested.value front Short
          → nested.short ≡ Some alternate → (run : GraphRunAt hir env alternate back end) → size_at run < bound
          → events ≡ front ++ back
          → Passes hir env handler (RunsNestedRow env is_test nested span value) left_open Behind bound events end
      out {front} {back} {alternate} here short run small e = by (by_arm arm short)
        where
          ends_test : {answers : Bool} → row_answers env is_test nested value ≡ answers
              → is_row_of_test env is_test (Some nested.answer) nested.value NoRows value ≡ answers
          ends_test a = row_of_test is_test value d short ∙ a

          through : goes_past_row (is_row_of_test env is_test (Some nested.answer) nested.value NoRows value) Short
              ≡ true
              → PassesArm hir env handler nested.fallthrough bound back end
              → Passes hir env handler (RunsNestedRow env is_test nested span value) left_open Behind bound events end
          through past (comes_behind at) = on past here at.run at.small e
          through past (throws_in_arm current at q) =
              throws_out (throws_there front (in_row (set_row set (value_stops here)) (inside_stays _)) current at e q)

          by : ((row_answers env is_test nested value ≡ true) × (left_open ≡ Some alternate))
              ⊎ ((row_answers env is_test nested value ≡ false)
              × SpellsSilentArm hir env handler nested.fallthrough alternate arm_used)
              → Passes hir env handler (RunsNestedRow env is_test nested span value) left_open Behind bound events end
          by (inl left) =
              shortens (in_row (set_row set here) (ap (λ ends. goes_past_row ends Short) (ends_test left.0))) left.1
              (record { run = run; small = small }) e
          by (inr own) = through (ap (λ ends. goes_past_row ends Short) (ends_test own.0)) (past_arm own.1 run small)

      go : NestedPasses hir env handler bound nested events end
          → Passes hir env handler (RunsNestedRow env is_test nested span value) left_open Behind bound events end
      go (stops here e) = stops (in_row (set_row set here) (inside_stays _)) e
      go (passes here at e) = on (done_goes_past _) here at.run at.small e
      go (shortens here short at e) = out here short at.run at.small e
      go (throws_out t) = throws_out (throw_behind [] (λ events here. in_row (set_row set here) (inside_stays _)) t)
