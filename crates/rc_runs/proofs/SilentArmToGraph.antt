-- A silent arm in the graph, and each run of its value: neither has an event.
use Rattle.std.proofs.Common.{◌≡◌, Bool, true, List, [], ◌∷◌, ◌++◌, ◌||◌, ◌&&◌, Option, Some, refl, sym, ap, ◌∙◌, subst}
use Rattle.std.proofs.lemmas.Bool.{and_parts}
use Rattle.rc_names.specs.Numbers.{BlockId, EvaluationOrder}
use Rattle.rc_names.specs.declared.span.Span.{Span}
use Rattle.rc_hir.specs.Model.{Terminal, Instruction, HirFunction, Environment}
use Rattle.rc_hir.specs.declared.terminal.Terminal.TheVariants as terminals
use Rattle.rc_runs.specs.Event.{Event, End}
use Rattle.rc_runs.specs.Silent.{is_silent, is_silent_value}
use Rattle.rc_runs.specs.Graph.{Block, usable_block}
use Rattle.rc_runs.specs.GraphRun.{Edge, goes_to, GraphRun, stopped, quiet, GraphRunAt, enters}
use Rattle.rc_runs.specs.PlainTree.{Value, Base, NoRows}
use Rattle.rc_runs.specs.ListContext.{ValueContext}
use Rattle.rc_runs.specs.LastRow.{ends_value, last_value, rows_then, after_rows}
use Rattle.rc_runs.specs.ValueEnd.{ValueEnd}
use Rattle.rc_runs.specs.ShortArms.{are_silent, SpellsSilentArm, silent_block, silent_chain}
use Rattle.rc_runs.specs.ValueGrammar.{Nested, SpellsValue, named_test, last_block, last_throw, may_throw, value_row}
use Rattle.rc_runs.specs.ValueGrammar.{SpellsNested, sequence_value, ternary_value, logical_value, optional_value}
use Rattle.rc_runs.specs.ValueRun.{Progress, RunsValue, value_stopped, quiet_value, did_value, did_and_stopped}
use Rattle.rc_runs.specs.ValueRun.{in_sequence, RunsRows, past_rows, past_row, in_row, RunsRow, unset_row, set_row}
use Rattle.rc_runs.proofs.GraphLemmas.{one_held, usable_block-at}
use Rattle.rc_runs.proofs.SetIds.{AreSet, usable_block-set, last_set}
use Rattle.rc_runs.proofs.LastRowLemmas.{last_value-runs}
use Rattle.rc_runs.proofs.OneValue.{nested_ends_no_value}
use Rattle.rc_runs.proofs.ShortArmLemmas.{past_row_is_past}
use Rattle.rc_runs.proofs.Covers.{Extends, Covers, passes, stays, extends_then, and_on, out_of_row, covers_then}
use Rattle.rc_runs.proofs.Covers.{over_edge, over_throw}

-- the first row is silent, and so are the others
silent_parts : (env : Environment) (row : Instruction) (rows : List Instruction) → are_silent env (row ∷ rows) ≡ true
    → (is_silent env row.id row.value ≡ true) × (are_silent env rows ≡ true)
silent_parts env row rows silent = and_parts (is_silent env row.id row.value) (are_silent env rows) silent

-- the rows before the last one are silent, and so is that
silent_ends : (env : Environment) (rows : List Instruction) (row : Instruction)
    → are_silent env (rows ++ row ∷ []) ≡ true
    → (are_silent env rows ≡ true) × (is_silent env row.id row.value ≡ true)
silent_ends env [] row silent = (refl, (silent_parts env row [] silent).0)
silent_ends env (first ∷ rows) row silent =
    let parts = silent_parts env first (rows ++ row ∷ []) silent in
    let rest = silent_ends env rows row parts.1 in
    (ap (λ here. here && are_silent env rows) parts.0 ∙ rest.0, rest.1)

module _ {hir : HirFunction} {env : Environment} where
  -- silent rows are passed without an event
  silent_run : {terminal : Terminal} {events : List Event} {end : End} (rows : List Instruction)
      → are_silent env rows ≡ true → GraphRun hir env [] terminal events end → GraphRun hir env rows terminal events end
  silent_run [] silent run = run
  silent_run (row ∷ rows) silent run =
      let parts = silent_parts env row rows silent in quiet parts.0 (silent_run rows parts.1 run)

  -- so a block with silent rows leads to its terminal
  past_silent_block : {key : BlockId} {block : Block} → usable_block hir key ≡ Some block
      → are_silent env block.rows ≡ true → Extends (GraphRunAt hir env key) (GraphRun hir env [] block.terminal) []
  past_silent_block {key} {block} found silent =
      record { on = λ more end run. enters (usable_block-at hir key block found) (silent_run block.rows silent run) }

  -- a silent arm leads to the next block without an event
  pub past_silent_arm : {handler : Option BlockId} {next key : BlockId} {used : List BlockId}
      → SpellsSilentArm hir env handler next key used → Extends (GraphRunAt hir env key) (GraphRunAt hir env next) []
  past_silent_arm {next = next} (silent_block found silent goes) =
      extends_then (past_silent_block found silent) (over_edge (subst (λ t. Edge t [] next) (sym goes) goes_to)) refl
  past_silent_arm (silent_chain found silent throws current arm) =
      extends_then (past_silent_block found silent) (extends_then (over_throw throws) (past_silent_arm arm) refl) refl

  -- a block that may throw doesn't end in a value terminal
  nested_no_throw : {handler named : Option BlockId} {last : Terminal} {nested : Nested} {used : List BlockId}
      {continuation : BlockId} {id : EvaluationOrder} {span : Option Span}
      → SpellsNested hir env handler last nested used → last ≡ terminals.MaybeThrow continuation named id span → ⊥
  nested_no_throw (sequence_value inner goes) same = let bad : ⊥ = cc in bad
  nested_no_throw (ternary_value test chooses value goes other other_goes e) same = let bad : ⊥ = cc in bad
  nested_no_throw (logical_value test chooses value arm other goes e) same = let bad : ⊥ = cc in bad
  nested_no_throw (optional_value test chooses shares value goes e) same = let bad : ⊥ = cc in bad

-- a run of a part without events stays where it is, before a terminal
abbrev pub Waits : HirFunction → Environment → Option BlockId → Terminal → List Event → Progress → Type 0
Waits hir env left terminal events progress =
    Covers hir env left (GraphRun hir env [] terminal) (GraphRun hir env [] terminal) events progress

module _ {hir : HirFunction} {env : Environment} {terminal : Terminal} {left : Option BlockId} {is_test : Bool} where
  silent_row : {events : List Event} {progress : Progress} (row : Instruction)
      → is_silent env row.id row.value ≡ true → RunsRow env is_test row.id (Base row.value) events progress
      → Waits hir env left terminal events progress
  silent_row row silent (unset_row u) = passes (record { on = λ more end run. run })
  silent_row row silent (set_row s value_stopped) = stays stopped
  silent_row row silent (set_row s (quiet_value h)) = passes (record { on = λ more end run. run })
  silent_row row silent (set_row s (did_value h)) =
      let seen = ap (λ unset. unset || is_silent_value env row.value) s ∙ h in
      absurd (let bad : ⊥ = cc in bad)
  silent_row row silent (set_row s (did_and_stopped h)) =
      let seen = ap (λ unset. unset || is_silent_value env row.value) s ∙ h in
      absurd (let bad : ⊥ = cc in bad)

module _ {hir : HirFunction} {env : Environment} {terminal : Terminal} {left : Option BlockId} {is_test : Bool} where
  -- silent rows, and then the value after them
  silent_rows : {value : Value} {events : List Event} {progress : Progress} (rows : List Instruction)
      → are_silent env rows ≡ true → ((events : List Event) (progress : Progress)
      → RunsValue env is_test value events progress → Waits hir env left terminal events progress)
      → RunsRows env is_test (rows_then rows NoRows) value events progress
      → Waits hir env left terminal events progress
  silent_rows [] silent behind (past_rows run) = behind _ _ run
  silent_rows (row ∷ rows) silent behind (past_row one past run e) =
      let parts = silent_parts env row rows silent in
      covers_then (and_on (silent_row row parts.0 one) (past_row_is_past _ _ past))
      (silent_rows rows parts.1 behind run) e
  silent_rows (row ∷ rows) silent behind (in_row one out) =
      out_of_row _ (silent_row row (silent_parts env row rows silent).0 one) out

  silent_after_rows : {value : Value} {events : List Event} {progress : Progress} (rows : List Instruction)
      (id : EvaluationOrder) → are_silent env rows ≡ true → ((events : List Event) (progress : Progress)
      → RunsValue env is_test value events progress → Waits hir env left terminal events progress)
      → RunsValue env is_test (after_rows rows id value) events progress → Waits hir env left terminal events progress
  silent_after_rows [] id silent behind run = behind _ _ run
  silent_after_rows (first ∷ rows) id silent behind value_stopped = stays stopped
  silent_after_rows (first ∷ rows) id silent behind (in_sequence run) = silent_rows (first ∷ rows) silent behind run

  -- the value of a last block whose rows are silent
  silent_last_block : (key : BlockId) {block other : Block} {events : List Event} {progress : Progress}
      (rows : List Instruction) (row : Instruction) → usable_block hir key ≡ Some block
      → are_silent env block.rows ≡ true → usable_block hir key ≡ Some other → other.rows ≡ rows ++ row ∷ []
      → RunsValue env is_test (after_rows rows row.id (Base (last_value env row.value))) events progress
      → Waits hir env left terminal events progress
  silent_last_block key {other = other} rows row found silent found' whole run =
      let alike = ap (λ (b : Block). b.rows) (one_held found' found) ∙ whole in
      let parts = silent_ends env rows row (sym (ap (are_silent env) alike) ∙ silent) in
      let set = last_set rows row (subst AreSet whole (usable_block-set hir key other found').rows) in
      silent_after_rows rows row.id parts.0
      (λ events progress run. silent_row row parts.1 (set_row set (last_value-runs row.value run))) run

  -- the value of a silent arm: both are the same chain of blocks
  pub silent_value_waits : {handler : Option BlockId} {next key : BlockId} {context : ValueContext} {value : Value}
      {end : ValueEnd} {arm_used used : List BlockId} {events : List Event} {progress : Progress}
      → SpellsSilentArm hir env handler next key arm_used → SpellsValue hir env key context value end used
      → RunsValue env is_test value events progress → Waits hir env left terminal events progress
  silent_value_waits (silent_block {block = block} found silent goes) (named_test {block = other} found' empty ends)
      run =
      let same : block ≡ other = one_held found' found in absurd (let bad : ⊥ = cc in bad)
  silent_value_waits (silent_block found silent goes) (last_block rows row found' ends whole) run =
      silent_last_block _ rows row found silent found' whole run
  silent_value_waits (silent_block {block = block} found silent goes)
      (last_throw {block = other} rows row found' throws current whole behind only) run =
      let same : block ≡ other = one_held found' found in absurd (let bad : ⊥ = cc in bad)
  silent_value_waits (silent_block {block = block} found silent goes)
      (may_throw {block = other} found' throws current further spelled whole) run =
      let same : block ≡ other = one_held found' found in absurd (let bad : ⊥ = cc in bad)
  silent_value_waits (silent_block {block = block} found silent goes) (value_row {block = other} found' spelled rest arm
      whole ends e) run =
      let same : block ≡ other = one_held found' found in
      let last = ap (λ (b : Block). ends_value b.terminal) (sym same) ∙ ap ends_value goes in
      let none = nested_ends_no_value spelled in
      absurd (let bad : ⊥ = cc in bad)
  silent_value_waits (silent_chain {block = block} found silent throws current arm)
      (named_test {block = other} found' empty ends) run =
      let same : block ≡ other = one_held found' found in absurd (let bad : ⊥ = cc in bad)
  silent_value_waits (silent_chain {block = block} found silent throws current arm)
      (last_block {block = other} rows row found' ends whole) run =
      let same : block ≡ other = one_held found' found in
      let last = ap (λ (b : Block). ends_value b.terminal) (sym same) ∙ ap ends_value throws in
      absurd (let bad : ⊥ = cc in bad)
  silent_value_waits (silent_chain found silent throws current arm)
      (last_throw rows row found' throws' current' whole behind only) run =
      silent_last_block _ rows row found silent found' whole run
  silent_value_waits {handler} {next} {events = events} {progress}
      (silent_chain {continuation = key} {block = block} {used = later} found silent throws current arm)
      (may_throw {continuation = other_key} {block = other} {end = end} found' throws' current' further spelled whole)
      run =
      let same : block ≡ other = one_held found' found in
      let on : key ≡ other_key = cc in
      let rest = subst (λ b. SpellsSilentArm hir env handler next b later) on arm in
      silent_after_rows other.rows end.id (sym (ap (λ (b : Block). are_silent env b.rows) same) ∙ silent)
      (λ events progress run. silent_value_waits rest spelled run)
      (subst (λ v. RunsValue env is_test v events progress) whole run)
  silent_value_waits (silent_chain {block = block} found silent throws current arm)
      (value_row {block = other} found' spelled rest arm' whole ends e) run =
      absurd (nested_no_throw spelled (ap (λ (b : Block). b.terminal) (sym (one_held found' found)) ∙ throws))
