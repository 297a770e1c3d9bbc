-- A run of the graph from a spelled value's block stops inside the value, passes it and goes on after it, or throws.
--
-- `passes_going` and `passes_test` are all that loops need of values.
use Rattle.std.proofs.Common.{◌≡◌, ℕ, ◌<◌, ◌≤◌, Bool, true, false, List, [], ◌∷◌, ◌++◌, Option, Some, refl, sym}
use Rattle.std.proofs.Common.{subst, append-nil, arith}
use Rattle.rc_names.specs.Numbers.{BlockId}
use Rattle.rc_names.specs.declared.span.Span.{Span}
use Rattle.rc_hir.specs.Model.{Terminal, Instruction, HirFunction, Environment}
use Rattle.rc_runs.specs.Event.{Event, End}
use Rattle.rc_runs.specs.Silent.{is_silent_value}
use Rattle.rc_runs.specs.Graph.{Block, usable_block, only_goes}
use Rattle.rc_runs.specs.GraphRun.{Edge, goes_to, GraphRunAt, arrives}
use Rattle.rc_runs.specs.GraphRun.{enters, GraphRun, stopped, moved, returned, thrown}
use Rattle.rc_runs.specs.PlainTree.{Value}
use Rattle.rc_runs.specs.ListContext.{ValueContext, part_context}
use Rattle.rc_runs.specs.ValueEnd.{ValueEnd, GoesTo, ChoosesBetween}
use Rattle.rc_runs.specs.LoopValues.{shown, SpellsGoing, SpellsTest}
use Rattle.rc_runs.specs.ValueGrammar.{Nested, SpellsValue, named_test, last_block, last_throw, may_throw, value_row}
use Rattle.rc_runs.specs.ValueGrammar.{SpellsNested, sequence_value, ternary_value, logical_value, optional_value}
use Rattle.rc_runs.specs.ValueRun.{RunsValue, value_stopped, quiet_value, in_sequence, past_rows}
use Rattle.rc_runs.proofs.GraphLemmas.{one_held, usable_block-at}
use Rattle.rc_runs.proofs.RunSize.{size, size_at}
use Rattle.rc_runs.proofs.SetIds.{AreSet, usable_block-set}
use Rattle.rc_runs.proofs.FlattenedRuns.{value_set, runs-shown}
use Rattle.rc_runs.proofs.RowRuns.{after_rows-run}
use Rattle.rc_runs.proofs.ShortArmLemmas.{same_alternate, nothing_left}
use Rattle.rc_runs.proofs.ShortEnds.{nested_set}
use Rattle.rc_runs.proofs.GraphToSilentArm.{runs_quietly}
use Rattle.rc_runs.proofs.Passes.{AtLast, Passes, stops, passes, Goes, Chooses, pass_behind, pass_events, goes_past}
use Rattle.rc_runs.proofs.Passes.{rows_pass, last_rows_pass, at_goto, at_branch, ends_in, before_throw, at_throw}
use Rattle.rc_runs.proofs.GraphToNested.{NestedPasses, conditional_goes, logical_goes, optional_passes}
use Rattle.rc_runs.proofs.GraphToNested.{nested_row_passes}

-- a block that only goes on has no rows
no_rows : (rows : List Instruction) (terminal : Terminal) → only_goes rows terminal ≡ true → rows ≡ []
no_rows [] terminal goes = refl
no_rows (row ∷ rows) terminal goes = absurd (let bad : ⊥ = cc in bad)

module _ {hir : HirFunction} {env : Environment} where
  -- a run of an equal block, and of equal rows
  run_of : {block other : Block} {bound : ℕ} {events : List Event} {end : End} → other ≡ block
      → (run : GraphRun hir env other.rows other.terminal events end) → size run ≤ bound
      → (same : GraphRun hir env block.rows block.terminal events end) × (size same ≤ bound)
  run_of {bound = bound} {events} {end} e run small =
      subst (λ (b : Block). (same : GraphRun hir env b.rows b.terminal events end) × (size same ≤ bound)) e
      (run, small)

  rows_of : {rows others : List Instruction} {terminal : Terminal} {bound : ℕ} {events : List Event} {end : End}
      → others ≡ rows → (run : GraphRun hir env others terminal events end) → size run ≤ bound
      → (same : GraphRun hir env rows terminal events end) × (size same ≤ bound)
  rows_of {terminal = terminal} {bound} {events} {end} e run small =
      subst (λ rows. (same : GraphRun hir env rows terminal events end) × (size same ≤ bound)) e (run, small)

  -- a run to an equal terminal
  run_with : {rows : List Instruction} {terminal other : Terminal} {bound : ℕ} {events : List Event} {end : End}
      → other ≡ terminal → (run : GraphRun hir env rows other events end) → size run ≤ bound
      → (same : GraphRun hir env rows terminal events end) × (size same ≤ bound)
  run_with {rows} {bound = bound} {events} {end} e run small =
      subst (λ t. (same : GraphRun hir env rows t events end) × (size same ≤ bound)) e (run, small)

  -- a block without rows is at its terminal at once
  at_terminal : {key : BlockId} {block : Block} {bound : ℕ} {events : List Event} {end : End}
      → usable_block hir key ≡ Some block → only_goes block.rows block.terminal ≡ true
      → (run : GraphRunAt hir env key events end) → size_at run < bound
      → AtLast hir env block.terminal bound events end
  unfolding size size_at
  at_terminal found goes arrives small = record { run = stopped; small = omega arith }
  at_terminal {key} {block} found goes (enters at run) small =
      let here = run_of (one_held (usable_block-at hir key block found) at) run (omega arith) in
      let bare = rows_of (no_rows block.rows block.terminal goes) here.0 here.1 in
      record { run = bare.0; small = bare.1 }

  -- from a value terminal, by where the runs from its edges lead
  terminal_passes : {handler : Option BlockId} {terminal : Terminal} {nested : Nested} {used : List BlockId} {bound : ℕ}
      {events : List Event} {end : End} → SpellsNested hir env handler terminal nested used
      → (run : GraphRun hir env [] terminal events end) → size run ≤ bound
      → ((step : List Event) (key : BlockId) (events : List Event) → Edge terminal step key
      → (run : GraphRunAt hir env key events end) → size_at run < bound
      → NestedPasses hir env handler bound nested (step ++ events) end)
      → NestedPasses hir env handler bound nested events end
  unfolding size
  terminal_passes d stopped small go = stops value_stopped refl
  terminal_passes d returned small go = elim d [ ]
  terminal_passes d thrown small go = elim d [ ]
  terminal_passes d (moved edge run e) small go = pass_events e (go _ _ _ edge run (omega arith))

  -- past a part of a value terminal, which leaves nothing open
  past_value : {key next : BlockId} {span : Option Span} {handler : Option BlockId} {value : Value}
      {value_end : ValueEnd} {used : List BlockId} {bound : ℕ} {events : List Event} {end : End}
      → SpellsValue hir env key (part_context span handler) value value_end used → GoesTo next value_end
      → Passes hir env handler (RunsValue env false value) value_end.left_open (AtLast hir env value_end.last bound)
      bound events end
      → Goes hir env handler value next bound events end
  past_value d ends it = at_goto (nothing_left d refl) (ends_in ends.goes it)

  past_test : {key consequent alternate : BlockId} {span : Option Span} {handler : Option BlockId} {value : Value}
      {value_end : ValueEnd} {used : List BlockId} {bound : ℕ} {events : List Event} {end : End}
      → SpellsValue hir env key (part_context span handler) value value_end used
      → ChoosesBetween env consequent alternate value_end
      → Passes hir env handler (RunsValue env false value) value_end.left_open (AtLast hir env value_end.last bound)
      bound events end
      → Chooses hir env handler value consequent alternate bound events end
  past_test d ends it = at_branch (nothing_left d refl) (ends_in ends.chooses it)

  mutual
    unfolding size size_at is_silent_value

    -- from the block of a value
    pub value_passes : {key : BlockId} {context : ValueContext} {value : Value} {value_end : ValueEnd}
        {used : List BlockId} (bound : ℕ) {events : List Event} {end : End}
        → SpellsValue hir env key context value value_end used → (run : GraphRunAt hir env key events end)
        → size_at run ≤ bound
        → Passes hir env context.handler (RunsValue env context.is_test value) value_end.left_open
        (AtLast hir env value_end.last bound) bound events end
    value_passes bound d arrives small = stops value_stopped refl
    value_passes {key} bound (named_test {block = block} found empty ends) (enters at run) small =
        let here = run_of (one_held (usable_block-at hir key block found) at) run small in
        let bare = rows_of empty here.0 here.1 in
        passes (quiet_value refl) (record { run = bare.0; small = bare.1 }) refl
    value_passes {key} bound (last_block {block = block} rows row found h whole) (enters at run) small =
        let here = run_of (one_held (usable_block-at hir key block found) at) run small in
        let these = rows_of whole here.0 here.1 in
        pass_behind [] (λ events progress behind. after_rows-run rows row.id behind) (last_rows_pass rows row
        (subst AreSet whole (usable_block-set hir key block found).rows) these.0 these.1)
    value_passes {key} bound (last_throw {continuation = continuation} {block = block} rows row found may current whole
        found_behind goes) (enters at run) small =
        let here = run_of (one_held (usable_block-at hir key block found) at) run small in
        let these = rows_of whole here.0 here.1 in
        at_throw current (λ events run small. at_terminal found_behind goes run small)
        (ends_in may (pass_behind [] (λ events progress behind. after_rows-run rows row.id behind)
        (last_rows_pass rows row (subst AreSet whole (usable_block-set hir key block found).rows) these.0 these.1)))
    value_passes {key} {context} {value_end = value_end} bound {events} {end}
        (may_throw {block = block} found may current
        follows behind w) (enters at run) small =
        let here = run_of (one_held (usable_block-at hir key block found) at) run small in
        let same : block.rows ≡ block.rows ++ [] = sym (append-nil block.rows) in
        let these = rows_of same here.0 here.1 in
        subst (λ v. Passes hir env context.handler (RunsValue env context.is_test v) value_end.left_open
        (AtLast hir env value_end.last bound) bound events end) (sym w)
        (pass_behind [] (λ events progress rows. after_rows-run block.rows value_end.id rows)
        (rows_pass block.rows [] (subst AreSet same (usable_block-set hir key block found).rows) these.0 these.1
        (λ events run small. pass_behind [] (λ events progress here. past_rows here)
        (let last = run_with may run small in
        before_throw current value_stopped last.0 last.1
        (λ events run small. value_passes bound behind run (omega arith))))))
    value_passes {key} {context} {value_end = value_end} bound {events} {end} (value_row {block = block}
        {nested = nested} {whole = whole} {behind = behind_end} {left = left} found d behind arm w q u) (enters at run)
        small =
        let here = run_of (one_held (usable_block-at hir key block found) at) run small in
        let ids = usable_block-set hir key block found in
        let same : block.rows ≡ block.rows ++ [] = sym (append-nil block.rows) in
        let these = rows_of same here.0 here.1 in
        subst (λ (z : ValueEnd). Passes hir env context.handler (RunsValue env context.is_test whole) z.left_open
        (AtLast hir env z.last bound) bound events end) (sym q)
        (subst (λ v. Passes hir env context.handler (RunsValue env context.is_test v) left
        (AtLast hir env behind_end.last bound) bound events end) (sym w)
        (pass_behind [] (λ events progress rows. in_sequence rows)
        (rows_pass block.rows [] (subst AreSet same ids.rows) these.0 these.1
        (λ events run small. nested_row_passes (nested_set ids.terminal d) d arm
        (λ events end run small. value_passes bound behind run (omega arith))
        (terminal_passes d run small
        (λ step key events edge run small. nested_passes bound d edge run small))))))

    -- from an edge of a value terminal
    pub nested_passes : {handler : Option BlockId} {terminal : Terminal} {nested : Nested} {used : List BlockId}
        {step : List Event} {key : BlockId} (bound : ℕ) {events : List Event} {end : End}
        → SpellsNested hir env handler terminal nested used → Edge terminal step key
        → (run : GraphRunAt hir env key events end) → size_at run < bound
        → NestedPasses hir env handler bound nested (step ++ events) end
    nested_passes bound (sequence_value d ends) goes_to run small =
        goes_past (past_value d ends (value_passes bound d run (omega arith)))
    nested_passes bound (ternary_value test chooses d ends other other_ends w) goes_to run small =
        goes_past (conditional_goes (past_test test chooses (value_passes bound test run (omega arith)))
        (λ events end run small. past_value d ends (value_passes bound d run (omega arith)))
        (λ events end run small. past_value other other_ends (value_passes bound other run (omega arith))))
    nested_passes bound (logical_value test chooses d silent other ends w) goes_to run small =
        goes_past (logical_goes (value_set test) (runs_quietly silent d) silent
        (past_test test chooses (value_passes bound test run (omega arith)))
        (λ events end run small. past_value other ends (value_passes bound other run (omega arith))))
    nested_passes bound (optional_value {alternate = own} {condition_end = condition_end} test chooses shares d ends w)
        goes_to run small =
        optional_passes (value_set test)
        (λ key left. sym (same_alternate condition_end.left_open own key shares left))
        (ends_in chooses.chooses (value_passes bound test run (omega arith)))
        (λ events end run small. past_value d ends (value_passes bound d run (omega arith)))

  -- the value as it is in a loop
  shown_passes : {key : BlockId} {span : Option Span} {handler : Option BlockId} {value : Value} {value_end : ValueEnd}
      {used : List BlockId} {last : Terminal} {events : List Event} {end : End} (flat : Bool) (around : Option Span)
      (shown_value : Value) → SpellsValue hir env key (part_context span handler) value value_end used
      → shown_value ≡ shown flat around value_end value → value_end.last ≡ last
      → (run : GraphRunAt hir env key events end)
      → Passes hir env handler (RunsValue env false shown_value) value_end.left_open
      (AtLast hir env last (size_at run)) (size_at run) events end
  shown_passes flat around shown_value d e last run =
      ends_in last (pass_behind [] (λ events progress here.
      subst (λ v. RunsValue env false v events progress) (sym e) (runs-shown flat around d here))
      (value_passes (size_at run) d run (omega arith)))

  -- a run from a value that goes on at a block
  pub passes_going : {flat : Bool} {key next : BlockId} {span : Option Span} {handler : Option BlockId} {value : Value}
      {used : List BlockId} {events : List Event} {end : End}
      → SpellsGoing hir env flat key (part_context span handler) next value used
      → (run : GraphRunAt hir env key events end) → Goes hir env handler value next (size_at run) events end
  passes_going {flat} {span = span} {value = value} d run =
      at_goto (nothing_left d.spelled refl) (shown_passes flat span value d.spelled d.is_shown d.goes.goes run)

  -- a run from a test
  pub passes_test : {flat : Bool} {key consequent alternate : BlockId} {span : Option Span} {handler : Option BlockId}
      {value : Value} {used : List BlockId} {events : List Event} {end : End}
      → SpellsTest hir env flat key (part_context span handler) consequent alternate value used
      → (run : GraphRunAt hir env key events end)
      → Chooses hir env handler value consequent alternate (size_at run) events end
  passes_test {flat} {span = span} {value = value} d run =
      at_branch (nothing_left d.spelled refl) (shown_passes flat span value d.spelled d.is_shown d.chooses.chooses run)
