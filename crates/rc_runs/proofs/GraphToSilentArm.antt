-- Silent arms have no events: a run of the graph that begins at one comes to the block after it, or throws.
use Rattle.std.proofs.Common.{◌≡◌, ℕ, ◌<◌, Bool, true, List, [], ◌∷◌, ◌++◌, Option, Some, refl, sym, ap, ◌∙◌}
use Rattle.std.proofs.Common.{subst, append-nil, arith}
use Rattle.std.proofs.lemmas.Bool.{and_parts}
use Rattle.rc_names.specs.Numbers.{BlockId, EvaluationOrder}
use Rattle.rc_names.specs.declared.span.Span.{Span}
use Rattle.rc_hir.specs.Model.{GotoVariant, Terminal, Instruction, HirFunction, Environment}
use Rattle.rc_hir.specs.declared.terminal.Terminal.TheVariants as terminals
use Rattle.rc_runs.specs.Event.{Event, Threw, End}
use Rattle.rc_runs.specs.Silent.{is_silent_value, is_silent}
use Rattle.rc_runs.specs.Graph.{Block, usable_block}
use Rattle.rc_runs.specs.GraphRun.{goes_to, goes_on, throws, GraphRunAt, arrives, enters, GraphRun, stopped, quiet, did}
use Rattle.rc_runs.specs.GraphRun.{moved}
use Rattle.rc_runs.specs.PlainTree.{Value, Base, NoRows}
use Rattle.rc_runs.specs.ListContext.{is_current, ValueContext}
use Rattle.rc_runs.specs.LastRow.{ends_value, last_value, rows_then, after_rows}
use Rattle.rc_runs.specs.ValueEnd.{ValueEnd}
use Rattle.rc_runs.specs.ShortArms.{are_silent, SpellsSilentArm, silent_block, silent_chain}
use Rattle.rc_runs.specs.ValueGrammar.{Nested, SpellsValue, SpellsNested, named_test, last_block, last_throw, may_throw}
use Rattle.rc_runs.specs.ValueGrammar.{value_row}
use Rattle.rc_runs.specs.ValueRun.{Done, RunsValue, quiet_value, RunsRows, past_rows, past_row}
use Rattle.rc_runs.proofs.GraphLemmas.{one_held, usable_block-at}
use Rattle.rc_runs.proofs.RunSize.{size, size_at}
use Rattle.rc_runs.proofs.SetIds.{AreSet, usable_block-set, last_set}
use Rattle.rc_runs.proofs.LastRowLemmas.{runs-last_value}
use Rattle.rc_runs.proofs.OneValue.{nested_ends_no_value}
use Rattle.rc_runs.proofs.RowRuns.{done_goes_past, quiet_row, silent_value, after_rows-run}
use Rattle.rc_runs.proofs.HandlerLemmas.{named_handler}
use Rattle.rc_runs.proofs.Throws.{AtBlock}

-- rows without events before a value, whatever follows them in their block
quiet_rows : {env : Environment} {is_test : Bool} {value : Value} (rows others : List Instruction)
    → are_silent env (rows ++ others) ≡ true
    → (are_silent env others ≡ true → RunsValue env is_test value [] Done)
    → RunsRows env is_test (rows_then rows NoRows) value [] Done
quiet_rows [] others silent behind = past_rows (behind silent)
quiet_rows {env} (row ∷ rows) others silent behind =
    let parts = and_parts (is_silent env row.id row.value) (are_silent env (rows ++ others)) silent in
    past_row (quiet_row parts.0) (done_goes_past _) (quiet_rows rows others parts.1 behind) refl

-- the rows of a silent block, the last of which is a value
quiet_last : {env : Environment} {is_test : Bool} (rows : List Instruction) (row : Instruction)
    → AreSet (rows ++ row ∷ []) → are_silent env (rows ++ row ∷ []) ≡ true
    → RunsRows env is_test (rows_then rows NoRows) (Base (last_value env row.value)) [] Done
quiet_last {env} rows row set silent =
    quiet_rows rows (row ∷ []) silent
    (λ own. let parts = and_parts (is_silent env row.id row.value) true own in
    runs-last_value row.value (quiet_value (silent_value env row true (last_set rows row set) parts.0)))

module _ (hir : HirFunction) (env : Environment) where
  -- a run of the graph that begins at a silent arm
  pub data PassesArm (handler : Option BlockId) (next : BlockId) (bound : ℕ) (events : List Event) (end : End) :
      Type 0 where
    comes_behind : AtBlock hir env next bound events end → PassesArm handler next bound events end
    throws_in_arm : {key : BlockId} {back : List Event} → handler ≡ Some key → AtBlock hir env key bound back end
        → events ≡ Threw ∷ back → PassesArm handler next bound events end

module _ {hir : HirFunction} {env : Environment} {handler : Option BlockId} {next : BlockId} {bound : ℕ} where
  -- rows without events
  past_silent_rows : {terminal : Terminal} {events : List Event} {end : End} (rows : List Instruction)
      → are_silent env rows ≡ true → (run : GraphRun hir env rows terminal events end) → size run < bound
      → ((run : GraphRun hir env [] terminal events end) → size run < bound
      → PassesArm hir env handler next bound events end)
      → PassesArm hir env handler next bound events end
  unfolding size
  past_silent_rows [] silent run small go = go run small
  past_silent_rows (row ∷ rows) silent stopped small go = go stopped small
  past_silent_rows (row ∷ rows) silent (quiet h run) small go =
      let parts = and_parts (is_silent env row.id row.value) (are_silent env rows) silent in
      past_silent_rows rows parts.1 run (omega arith) go
  past_silent_rows (row ∷ rows) silent (did h run) small go =
      let parts = and_parts (is_silent env row.id row.value) (are_silent env rows) silent in
      absurd (let bad : ⊥ = cc (parts.0, h) in bad)

  -- the jump to the block after the arm
  past_jump : {variant : GotoVariant} {id : EvaluationOrder} {span : Option Span} {events : List Event} {end : End}
      → (run : GraphRun hir env [] (terminals.Goto next variant id span) events end) → size run < bound
      → PassesArm hir env handler next bound events end
  unfolding size size_at
  past_jump stopped small = comes_behind (record { run = arrives; small = small })
  past_jump {end = end} (moved {events = events} goes_to run e) small =
      subst (λ all. PassesArm hir env handler next bound all end) (sym e)
      (comes_behind (record { run = run; small = omega arith }))

  -- the end of a block of the chain, which may throw
  past_link : {continuation : BlockId} {named : Option BlockId} {id : EvaluationOrder} {span : Option Span}
      {events : List Event} {end : End} → is_current named handler ≡ true
      → (run : GraphRun hir env [] (terminals.MaybeThrow continuation named id span) events end) → size run < bound
      → ((events : List Event) (run : GraphRunAt hir env continuation events end) → size_at run < bound
      → PassesArm hir env handler next bound events end)
      → PassesArm hir env handler next bound events end
  unfolding size size_at
  past_link current stopped small go = comes_behind (record { run = arrives; small = small })
  past_link {end = end} current (moved {events = events} goes_on run e) small go =
      subst (λ all. PassesArm hir env handler next bound all end) (sym e) (go events run (omega arith))
  past_link current (moved (throws {handler = key}) run e) small go =
      throws_in_arm (named_handler key handler current) (record { run = run; small = omega arith }) e

  -- a run in a block of a silent arm; the block's terminal is known
  in_block : {block other : Block} {terminal : Terminal} {events : List Event} {end : End}
      → other ≡ block → are_silent env block.rows ≡ true → block.terminal ≡ terminal
      → (run : GraphRun hir env other.rows other.terminal events end) → size run < bound
      → ((run : GraphRun hir env [] terminal events end) → size run < bound
      → PassesArm hir env handler next bound events end)
      → PassesArm hir env handler next bound events end
  in_block {block = block} {other} {events = events} {end} same silent ends run small go =
      past_silent_rows other.rows (ap (λ (b : Block). are_silent env b.rows) same ∙ silent) run small
      (subst (λ t. (run : GraphRun hir env [] t events end) → size run < bound
      → PassesArm hir env handler next bound events end)
      (sym (ap (λ (b : Block). b.terminal) same ∙ ends)) go)

  -- a run from a silent arm
  pub past_arm : {key : BlockId} {used : List BlockId} {events : List Event} {end : End}
      → SpellsSilentArm hir env handler next key used → (run : GraphRunAt hir env key events end) → size_at run < bound
      → PassesArm hir env handler next bound events end
  unfolding size_at
  past_arm d arrives small = comes_behind (record { run = arrives; small = small })
  past_arm {key} (silent_block {block = block} found silent ends) (enters at run) small =
      in_block (one_held (usable_block-at hir key block found) at) silent ends run small past_jump
  past_arm {key} (silent_chain {block = block} found silent ends current behind) (enters at run) small =
      in_block (one_held (usable_block-at hir key block found) at) silent ends run small
      (λ run small. past_link current run small (λ events run small. past_arm behind run small))

-- the terminals of one block are equal
one_end : (hir : HirFunction) (key : BlockId) {block other : Block} {terminal end : Terminal}
    → usable_block hir key ≡ Some block → block.terminal ≡ terminal → usable_block hir key ≡ Some other
    → other.terminal ≡ end → terminal ≡ end
one_end hir key found ends found' ends' = sym ends ∙ ap (λ (b : Block). b.terminal) (one_held found' found) ∙ ends'

-- a silent block whose last row is a value
last_quietly : (hir : HirFunction) (key : BlockId) {env : Environment} {is_test : Bool} {block other : Block}
    (rows : List Instruction) (row : Instruction) → usable_block hir key ≡ Some block
    → are_silent env block.rows ≡ true → usable_block hir key ≡ Some other → other.rows ≡ rows ++ row ∷ []
    → RunsValue env is_test (after_rows rows row.id (Base (last_value env row.value))) [] Done
last_quietly hir key {env} {block = block} {other} rows row found silent found' whole =
    let same : block ≡ other = one_held found' found in
    after_rows-run rows row.id (quiet_last rows row
    (subst AreSet whole (usable_block-set hir key other found').rows)
    (ap (are_silent env) (sym whole ∙ sym (ap (λ (b : Block). b.rows) same)) ∙ silent))

module _ {hir : HirFunction} {env : Environment} where
  -- a value terminal is no jump, and doesn't end a block that may throw
  no_jump : {handler : Option BlockId} {terminal : Terminal} {nested : Nested} {used : List BlockId} {next : BlockId}
      {variant : GotoVariant} {id : EvaluationOrder} {span : Option Span}
      → SpellsNested hir env handler terminal nested used → terminal ≡ terminals.Goto next variant id span → ⊥
  no_jump d e = let same = sym (nested_ends_no_value d) ∙ ap ends_value e in let bad : ⊥ = cc in bad

  no_throw : {handler : Option BlockId} {terminal : Terminal} {nested : Nested} {used : List BlockId}
      {continuation : BlockId} {named : Option BlockId} {id : EvaluationOrder} {span : Option Span}
      → SpellsNested hir env handler terminal nested used
      → terminal ≡ terminals.MaybeThrow continuation named id span → ⊥
  no_throw {handler} {nested = nested} {used} d e =
      let same = subst (λ t. SpellsNested hir env handler t nested used) e d in
      elim same [ ]

  -- the value of a silent arm has a run without events
  pub runs_quietly : {is_test : Bool} {handler : Option BlockId} {next key : BlockId} {context : ValueContext}
      {value : Value} {value_end : ValueEnd} {arm_used used : List BlockId}
      → SpellsSilentArm hir env handler next key arm_used → SpellsValue hir env key context value value_end used
      → RunsValue env is_test value [] Done
  unfolding is_silent_value
  runs_quietly arm (named_test found empty ends) = quiet_value refl
  runs_quietly (silent_block found silent jump) (last_block rows row found' ends whole) =
      last_quietly hir _ rows row found silent found' whole
  runs_quietly (silent_block found silent jump) (last_throw rows row found' may current whole behind goes) =
      absurd (let same = one_end hir _ found jump found' may in let bad : ⊥ = cc in bad)
  runs_quietly (silent_block found silent jump) (may_throw found' may current follows d w) =
      absurd (let same = one_end hir _ found jump found' may in let bad : ⊥ = cc in bad)
  runs_quietly (silent_block found silent jump) (value_row found' d behind arm w q u) =
      absurd (no_jump d (one_end hir _ found' refl found jump))
  runs_quietly (silent_chain found silent may current rest) (last_block rows row found' ends whole) =
      absurd (let same = ap ends_value (one_end hir _ found may found' refl) in let bad : ⊥ = cc in bad)
  runs_quietly (silent_chain found silent may current rest)
      (last_throw rows row found' may' current' whole behind goes) =
      last_quietly hir _ rows row found silent found' whole
  runs_quietly {is_test} {context = context}
      (silent_chain {continuation = next} {block = block} found silent may current
      rest) (may_throw {continuation = other_next} {block = other} {value = value} {end = value_end} {used = used}
      found'
      may' current' follows d w) =
      let same : block ≡ other = one_held found' found in
      let ends = one_end hir _ found may found' may' in
      let alike : other_next ≡ next = cc in
      let quiet : are_silent env (other.rows ++ []) ≡ true =
      ap (are_silent env) (append-nil other.rows ∙ sym (ap (λ (b : Block). b.rows) same)) ∙ silent in
      subst (λ v. RunsValue env is_test v [] Done) (sym w) (after_rows-run other.rows value_end.id
      (quiet_rows other.rows [] quiet
      (λ none. runs_quietly rest (subst (λ k. SpellsValue hir env k context value value_end used) alike d))))
  runs_quietly (silent_chain found silent may current rest) (value_row found' d behind arm w q u) =
      absurd (no_throw d (one_end hir _ found' refl found may))
