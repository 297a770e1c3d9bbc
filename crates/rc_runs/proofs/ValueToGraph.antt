-- Each run of a spelled value is a run of the graph from the value's block to the terminal of its last block: by
-- recursion on how the value is spelled.
--
-- The lemmas on values that go on and on tests are all that loops need of values, and `nested_to_graph` is all that a
-- list needs of a value terminal.
use Rattle.std.proofs.Common.{◌≡◌, Bool, true, false, List, [], ◌∷◌, ◌++◌, Option, Some, None}
use Rattle.std.proofs.Common.{refl, sym, ap, ◌∙◌, subst}
use Rattle.rc_names.specs.Numbers.{BlockId}
use Rattle.rc_names.specs.declared.span.Span.{Span}
use Rattle.rc_hir.specs.Model.{Place, Terminal, Instruction, HirFunction, Environment}
use Rattle.rc_hir.specs.declared.instruction.InstructionValue.TheVariants as kinds
use Rattle.rc_hir.specs.declared.terminal.Terminal.TheVariants as terminals
use Rattle.rc_runs.specs.Event.{Event, End, Open}
use Rattle.rc_runs.specs.Silent.{is_unset, is_silent_value}
use Rattle.rc_runs.specs.Graph.{Block, usable_block, only_goes}
use Rattle.rc_runs.specs.GraphRun.{Edge, GraphRun, stopped, moved, GraphRunAt, enters}
use Rattle.rc_runs.specs.PlainTree.{Value, Base}
use Rattle.rc_runs.specs.ListContext.{ValueContext, part_context}
use Rattle.rc_runs.specs.ValueEnd.{ValueEnd}
use Rattle.rc_runs.specs.LoopValues.{SpellsGoing, SpellsTest}
use Rattle.rc_runs.specs.ValueGrammar.{Nested, SpellsValue, named_test, last_block, last_throw, may_throw, value_row}
use Rattle.rc_runs.specs.ValueGrammar.{SpellsNested, sequence_value, ternary_value, logical_value, optional_value}
use Rattle.rc_runs.specs.ValueRun.{Progress, Inside, goes_past, RunsValue, value_stopped}
use Rattle.rc_runs.specs.ValueRun.{quiet_value, did_value, did_and_stopped}
use Rattle.rc_runs.proofs.GraphLemmas.{usable_block-at}
use Rattle.rc_runs.proofs.SetIds.{AreSet, usable_block-set}
use Rattle.rc_runs.proofs.FlattenedRuns.{value_set, shown-runs}
use Rattle.rc_runs.proofs.ShortArmLemmas.{nothing_left, nested_id}
use Rattle.rc_runs.proofs.Covers.{Extends, Covers, passes, stays, extends_then, and_on, and_stop, covers_then}
use Rattle.rc_runs.proofs.Covers.{covers_on, over_throw}
use Rattle.rc_runs.proofs.ValueRowsToGraph.{after_rows_covered, last_block_covered}
use Rattle.rc_runs.proofs.NestedRowToGraph.{row_then_value, sequence_covered}
use Rattle.rc_runs.proofs.SilentArmToGraph.{past_silent_arm, silent_value_waits}
use Rattle.rc_runs.proofs.NestedToGraph.{CoversValue, CoversNested, sequence_to_graph, ternary_to_graph}
use Rattle.rc_runs.proofs.NestedToGraph.{logical_to_graph, optional_to_graph, to_fallthrough}

-- a block that only goes on has no rows
no_rows : (rows : List Instruction) (terminal : Terminal) → only_goes rows terminal ≡ true → rows ≡ []
no_rows [] terminal only = refl
no_rows (row ∷ rows) terminal only = absurd (let bad : ⊥ = cc in bad)

module _ {hir : HirFunction} {env : Environment} where
  -- a test that is only loaded has no row, and no event
  named_covered : {is_test : Bool} {left : Option BlockId} {test : Place} {terminal : Terminal} {events : List Event}
      {progress : Progress} → RunsValue env is_test (Base (kinds.LoadLocal test test.span)) events progress
      → Covers hir env left (GraphRun hir env [] terminal) (GraphRun hir env [] terminal) events progress
  unfolding is_silent_value
  named_covered value_stopped = stays stopped
  named_covered (quiet_value h) = passes (record { on = λ more end run. run })
  named_covered (did_value h) = absurd (let bad : ⊥ = cc in bad)
  named_covered (did_and_stopped h) = absurd (let bad : ⊥ = cc in bad)

  -- into a block
  into_block : {key : BlockId} {block : Block} {rows : List Instruction} → usable_block hir key ≡ Some block
      → block.rows ≡ rows → Extends (GraphRunAt hir env key) (GraphRun hir env rows block.terminal) []
  into_block {key} {block} found same = record {
    on = λ more end run. enters (usable_block-at hir key block found)
        (subst (λ rows. GraphRun hir env rows block.terminal more end) (sym same) run);
  }

  entered : {left : Option BlockId} {key : BlockId} {block : Block} {rows : List Instruction}
      {behind : List Event → End → Type 0} {events : List Event} {progress : Progress}
      → usable_block hir key ≡ Some block → block.rows ≡ rows
      → Covers hir env left (GraphRun hir env rows block.terminal) behind events progress
      → Covers hir env left (GraphRunAt hir env key) behind events progress
  entered found same covered = covers_then (into_block found same) covered refl

  -- outside of the test of an optional, a value leaves no alternate open
  closed : {key : BlockId} {span : Option Span} {handler : Option BlockId} {value : Value} {end : ValueEnd}
      {used : List BlockId} → SpellsValue hir env key (part_context span handler) value end used
      → CoversValue hir env false value end.left_open key end.last → CoversValue hir env false value None key end.last
  closed {key = key} {value = value} {end} spelled covered =
      subst (λ left. CoversValue hir env false value left key end.last) (nothing_left spelled refl) covered

  mutual
    value_to_graph : {key : BlockId} {context : ValueContext} {value : Value} {end : ValueEnd} {used : List BlockId}
        → SpellsValue hir env key context value end used
        → CoversValue hir env context.is_test value end.left_open key end.last
    value_to_graph (named_test found empty ends) events progress run = entered found empty (named_covered run)
    value_to_graph {key} (last_block {block = block} rows row found ends whole) events progress run =
        entered found whole
        (last_block_covered rows row (subst AreSet whole (usable_block-set hir key block found).rows) run)
    value_to_graph {key} (last_throw {block = block} {behind = behind} rows row found throws current whole found' only)
        events progress run =
        covers_on (entered found whole
        (last_block_covered rows row (subst AreSet whole (usable_block-set hir key block found).rows) run))
        (extends_then (over_throw throws) (into_block found' (no_rows behind.rows behind.terminal only)) refl)
    value_to_graph {context = context}
        (may_throw {block = block} {end = end} found throws current further spelled whole) events progress run =
        entered found refl
        (after_rows_covered block.rows end.id
        (λ events progress run. covers_then (over_throw throws) (value_to_graph spelled events progress run) refl)
        (subst (λ v. RunsValue env context.is_test v events progress) whole run))
    value_to_graph {key} {context} (value_row {block = block} found spelled rest arm whole ends e) events progress run =
        let set = sym (ap is_unset (nested_id spelled)) ∙ (usable_block-set hir key block found).terminal in
        subst (λ (end : ValueEnd). Covers hir env end.left_open (GraphRunAt hir env key) (GraphRun hir env [] end.last)
        events progress) (sym ends)
        (entered found refl
        (sequence_covered block.rows
        (row_then_value context.is_test set spelled arm (nested_to_graph spelled) (value_to_graph rest))
        (subst (λ v. RunsValue env context.is_test v events progress) whole run)))

    pub nested_to_graph : {handler : Option BlockId} {terminal : Terminal} {nested : Nested} {used : List BlockId}
        → SpellsNested hir env handler terminal nested used
        → CoversNested hir env terminal nested.value nested.short nested.fallthrough
    nested_to_graph (sequence_value inner goes) = sequence_to_graph goes (closed inner (value_to_graph inner))
    nested_to_graph (ternary_value test chooses value goes other other_goes e) =
        ternary_to_graph chooses goes other_goes (closed test (value_to_graph test))
        (closed value (value_to_graph value)) (closed other (value_to_graph other))
    nested_to_graph (logical_value test chooses value arm other goes e) =
        logical_to_graph (value_set test) chooses goes (past_silent_arm arm) (closed test (value_to_graph test))
        (λ events progress run. silent_value_waits arm value run) (closed other (value_to_graph other))
    nested_to_graph (optional_value test chooses shares value goes e) =
        optional_to_graph (value_set test) chooses shares goes (value_to_graph test)
        (closed value (value_to_graph value))

module _ {hir : HirFunction} {env : Environment} {flat : Bool} {key : BlockId} {span : Option Span}
    {handler : Option BlockId} {value : Value} {used : List BlockId} where
  -- a value after which the graph goes on, up to where it does
  going_covered : {next : BlockId} {events : List Event} {progress : Progress}
      → SpellsGoing hir env flat key (part_context span handler) next value used
      → RunsValue env false value events progress
      → Covers hir env None (GraphRunAt hir env key) (GraphRunAt hir env next) events progress
  going_covered {events = events} {progress} spelled run =
      let same = subst (λ v. RunsValue env false v events progress) spelled.is_shown run in
      to_fallthrough spelled.goes
      (closed spelled.spelled (value_to_graph spelled.spelled) events progress
      (shown-runs flat span spelled.spelled same))

  -- past such a value
  pub going_on : {next : BlockId} {events more : List Event} {progress : Progress} {end : End}
      → SpellsGoing hir env flat key (part_context span handler) next value used
      → RunsValue env false value events progress → goes_past progress ≡ true → GraphRunAt hir env next more end
      → GraphRunAt hir env key (events ++ more) end
  going_on {more = more} {end = end} spelled run past behind =
      (and_on (going_covered spelled run) past).on more end behind

  -- stopped inside such a value
  pub going_stops : {next : BlockId} {events : List Event}
      → SpellsGoing hir env flat key (part_context span handler) next value used
      → RunsValue env false value events Inside → GraphRunAt hir env key events Open
  going_stops spelled run = and_stop (going_covered spelled run)

  -- a test, up to its branch
  test_covered : {consequent alternate : BlockId} {events : List Event} {progress : Progress}
      → (spelled : SpellsTest hir env flat key (part_context span handler) consequent alternate value used)
      → RunsValue env false value events progress
      → Covers hir env None (GraphRunAt hir env key) (GraphRun hir env [] spelled.end.last) events progress
  test_covered {events = events} {progress} spelled run =
      let same = subst (λ v. RunsValue env false v events progress) spelled.is_shown run in
      closed spelled.spelled (value_to_graph spelled.spelled) events progress
      (shown-runs flat span spelled.spelled same)

  -- past a test, into one of the two blocks between which it chooses
  pub test_chooses : {consequent alternate to : BlockId} {step events more : List Event} {progress : Progress}
      {end : End} → (spelled : SpellsTest hir env flat key (part_context span handler) consequent alternate value used)
      → RunsValue env false value events progress → goes_past progress ≡ true
      → Edge (terminals.Branch spelled.chooses.test consequent alternate spelled.chooses.id spelled.chooses.span) step
      to → GraphRunAt hir env to more end → GraphRunAt hir env key (events ++ (step ++ more)) end
  test_chooses {to = to} {step} {more = more} {end = end} spelled run past edge behind =
      (and_on (test_covered spelled run) past).on (step ++ more) end
      (moved (subst (λ t. Edge t step to) (sym spelled.chooses.chooses) edge) behind refl)

  -- stopped inside a test
  pub test_stops : {consequent alternate : BlockId} {events : List Event}
      → SpellsTest hir env flat key (part_context span handler) consequent alternate value used
      → RunsValue env false value events Inside → GraphRunAt hir env key events Open
  test_stops spelled run = and_stop (test_covered spelled run)
