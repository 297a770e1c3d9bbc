-- Where a run of the graph leads that begins at a part of a value.
--
-- Such a run stops inside the part, or passes it and goes on after it, or takes a short end, which leads to the
-- alternate that the part leaves open, or throws inside and goes on from the current handler. A value that is no
-- optional's test leaves nothing open: for such values, `Goes` and `Chooses` say what follows them. No run that goes on
-- is longer than the bound, and past an edge it is shorter.
use Rattle.std.proofs.Common.{◌≡◌, ℕ, ◌<◌, ◌≤◌, Bool, true, false, List, [], ◌∷◌, ◌++◌, Option, Some, None, refl, sym}
use Rattle.std.proofs.Common.{ap, ◌∙◌, subst, append_assoc, append-nil, arith}
use Rattle.rc_names.specs.Numbers.{BlockId, EvaluationOrder}
use Rattle.rc_names.specs.declared.span.Span.{Span}
use Rattle.rc_hir.specs.Model.{Place, GotoVariant, Terminal, Instruction, HirFunction, Environment}
use Rattle.rc_hir.specs.declared.terminal.Terminal.TheVariants as terminals
use Rattle.rc_runs.specs.Event.{Event, Did, Arm, End, Open}
use Rattle.rc_runs.specs.GraphRun.{goes_to, goes_on, throws, then_arm, else_arm, GraphRunAt, GraphRun, stopped}
use Rattle.rc_runs.specs.GraphRun.{quiet, did, moved}
use Rattle.rc_runs.specs.PlainTree.{Value, Base, Rows, NoRows}
use Rattle.rc_runs.specs.LastRow.{last_value, rows_then}
use Rattle.rc_runs.specs.ListContext.{is_current}
use Rattle.rc_runs.specs.ValueRun.{Progress, Done, Short, Inside, settled, RunsValue, value_stopped, quiet_value}
use Rattle.rc_runs.specs.ValueRun.{did_value, RunsRows, past_rows, past_row, in_row, set_row}
use Rattle.rc_runs.proofs.RunSize.{size, size_at}
use Rattle.rc_runs.proofs.SetIds.{AreSet, first_set, last_set}
use Rattle.rc_runs.proofs.LastRowLemmas.{runs-last_value}
use Rattle.rc_runs.proofs.FlattenedRuns.{inside_stays, value_stops}
use Rattle.rc_runs.proofs.RowRuns.{done_goes_past, quiet_row, did_row, silent_value}
use Rattle.rc_runs.proofs.HandlerLemmas.{named_handler}
use Rattle.rc_runs.proofs.Throws.{AtBlock, Throws, throws_there, throw_behind}

module _ (hir : HirFunction) (env : Environment) where
  -- a run is at the terminal of a value's last block
  pub record AtLast (last : Terminal) (bound : ℕ) (events : List Event) (end : End) : Type 0 where
    pub run : GraphRun hir env [] last events end
    pub small : size run ≤ bound

  -- a run of the graph under a handler that begins at a part with the runs `R`; `Behind` is what comes after the part
  pub data Passes (handler : Option BlockId) (R : List Event → Progress → Type 0) (left_open : Option BlockId)
      (Behind : List Event → End → Type 0) (bound : ℕ) (events : List Event) (end : End) : Type 0 where
    stops : R events Inside → end ≡ Open → Passes handler R left_open Behind bound events end
    passes : {front back : List Event} → R front Done → Behind back end → events ≡ front ++ back
        → Passes handler R left_open Behind bound events end
    shortens : {front back : List Event} {alternate : BlockId} → R front Short → left_open ≡ Some alternate
        → AtBlock hir env alternate bound back end → events ≡ front ++ back
        → Passes handler R left_open Behind bound events end
    throws_out : Throws hir env handler (λ events. R events Inside) bound events end
        → Passes handler R left_open Behind bound events end

  -- a run of the graph under a handler that begins at a value and goes on at a block
  pub data Goes (handler : Option BlockId) (value : Value) (next : BlockId) (bound : ℕ) (events : List Event)
      (end : End) : Type 0 where
    stays_inside : RunsValue env false value events Inside → end ≡ Open → Goes handler value next bound events end
    goes : {front back : List Event} → RunsValue env false value front Done →
        (run : GraphRunAt hir env next back end) → size_at run < bound → events ≡ front ++ back →
        Goes handler value next bound events end
    throws_inside : Throws hir env handler (λ events. RunsValue env false value events Inside) bound events end
        → Goes handler value next bound events end

  -- a run of the graph under a handler that begins at a test and chooses between two blocks
  pub data Chooses (handler : Option BlockId) (value : Value) (consequent alternate : BlockId) (bound : ℕ)
      (events : List Event) (end : End) : Type 0 where
    stays_in_test : RunsValue env false value events Inside → end ≡ Open →
        Chooses handler value consequent alternate bound events end
    holds : {front back : List Event} → RunsValue env false value front Done →
        (run : GraphRunAt hir env consequent back end) → size_at run < bound → events ≡ front ++ (Arm true ∷ back) →
        Chooses handler value consequent alternate bound events end
    fails : {front back : List Event} → RunsValue env false value front Done →
        (run : GraphRunAt hir env alternate back end) → size_at run < bound → events ≡ front ++ (Arm false ∷ back) →
        Chooses handler value consequent alternate bound events end
    throws_in_test : Throws hir env handler (λ events. RunsValue env false value events Inside) bound events end
        → Chooses handler value consequent alternate bound events end

-- the id of the last row is set, as those of all rows are
last_alone : (rows : List Instruction) (row : Instruction) → AreSet (rows ++ row ∷ []) → AreSet (row ∷ [])
last_alone [] row set = set
last_alone (first ∷ rows) row set = last_alone rows row (first_set first (rows ++ row ∷ []) set).1

module _ {hir : HirFunction} {env : Environment} where
  -- events come before those of the part
  pub pass_behind : {handler : Option BlockId} {R S : List Event → Progress → Type 0} {left_open : Option BlockId}
      {Behind : List Event → End → Type 0} {bound : ℕ} {events : List Event} {end : End} (before : List Event)
      → ((events : List Event) (progress : Progress) → R events progress → S (before ++ events) progress)
      → Passes hir env handler R left_open Behind bound events end
      → Passes hir env handler S left_open Behind bound (before ++ events) end
  pass_behind {events = events} before put (stops here e) = stops (put events Inside here) e
  pass_behind before put (passes {front = front} {back} here behind e) =
      passes (put front Done here) behind (ap (λ v. before ++ v) e ∙ sym (append_assoc before front back))
  pass_behind before put (shortens {front = front} {back} here left behind e) =
      shortens (put front Short here) left behind (ap (λ v. before ++ v) e ∙ sym (append_assoc before front back))
  pass_behind before put (throws_out t) =
      throws_out (throw_behind before (λ events here. put events Inside here) t)

  pub goes_behind : {handler : Option BlockId} {value whole : Value} {next : BlockId} {bound : ℕ}
      {events : List Event} {end : End} (before : List Event)
      → ((events : List Event) (progress : Progress) → RunsValue env false value events progress
      → RunsValue env false whole (before ++ events) (settled progress))
      → Goes hir env handler value next bound events end → Goes hir env handler whole next bound (before ++ events) end
  goes_behind {events = events} before put (stays_inside here e) = stays_inside (put events Inside here) e
  goes_behind before put (goes {front = front} {back} here run small e) =
      goes (put front Done here) run small (ap (λ v. before ++ v) e ∙ sym (append_assoc before front back))
  goes_behind before put (throws_inside t) =
      throws_inside (throw_behind before (λ events here. put events Inside here) t)

  -- the same with equal events
  pub pass_events : {handler : Option BlockId} {R : List Event → Progress → Type 0} {left_open : Option BlockId}
      {Behind : List Event → End → Type 0} {bound : ℕ} {events all : List Event} {end : End} → all ≡ events
      → Passes hir env handler R left_open Behind bound events end
      → Passes hir env handler R left_open Behind bound all end
  pass_events {handler} {R} {left_open} {Behind} {bound} {end = end} e d =
      subst (λ all. Passes hir env handler R left_open Behind bound all end) (sym e) d

  pub goes_events : {handler : Option BlockId} {value : Value} {next : BlockId} {bound : ℕ} {events all : List Event}
      {end : End} → all ≡ events → Goes hir env handler value next bound events end
      → Goes hir env handler value next bound all end
  goes_events {handler} {value} {next} {bound} {end = end} e d =
      subst (λ all. Goes hir env handler value next bound all end) (sym e) d

  -- a value without a short end, wherever it is
  pub goes_past : {handler : Option BlockId} {value : Value} {next : BlockId} {left_open : Option BlockId} {bound : ℕ}
      {events : List Event} {end : End} → Goes hir env handler value next bound events end
      → Passes hir env handler (RunsValue env false value) left_open (AtBlock hir env next bound) bound events end
  goes_past (stays_inside here e) = stops here e
  goes_past (goes here run small e) = passes here (record { run = run; small = small }) e
  goes_past (throws_inside t) = throws_out t

  -- the rows of a block before a part that begins at the other rows or at the terminal
  pub rows_pass : {handler : Option BlockId} {is_test : Bool} {more : Rows} {value : Value} {left_open : Option BlockId}
      {Behind : List Event → End → Type 0} {terminal : Terminal} {bound : ℕ} {events : List Event} {end : End}
      (rows others : List Instruction) → AreSet (rows ++ others)
      → (run : GraphRun hir env (rows ++ others) terminal events end) → size run ≤ bound
      → ((events : List Event) (run : GraphRun hir env others terminal events end) → size run ≤ bound
      → Passes hir env handler (RunsRows env is_test more value) left_open Behind bound events end)
      → Passes hir env handler (RunsRows env is_test (rows_then rows more) value) left_open Behind bound events end
  unfolding size
  rows_pass [] others set run small go = go _ run small
  rows_pass (row ∷ rows) others set stopped small go =
      stops (in_row (set_row (first_set row (rows ++ others) set).0 value_stopped) (inside_stays _)) refl
  rows_pass (row ∷ rows) others set (quiet h run) small go =
      pass_behind [] (λ events progress behind. past_row (quiet_row h) (done_goes_past _) behind refl)
      (rows_pass rows others (first_set row (rows ++ others) set).1 run (omega arith) go)
  rows_pass (row ∷ rows) others set (did h run) small go =
      pass_behind (Did row.value ∷ [])
      (λ events progress behind. past_row (did_row h) (done_goes_past _) behind refl)
      (rows_pass rows others (first_set row (rows ++ others) set).1 run (omega arith) go)

  -- the last row of a value's last block is the value
  last_row_passes : {handler : Option BlockId} {is_test : Bool} {terminal : Terminal} {bound : ℕ}
      {events : List Event} {end : End} (row : Instruction) → AreSet (row ∷ [])
      → (run : GraphRun hir env (row ∷ []) terminal events end) → size run ≤ bound
      → Passes hir env handler (RunsRows env is_test NoRows (Base (last_value env row.value))) None
      (AtLast hir env terminal bound) bound events end
  unfolding size
  last_row_passes row set stopped small = stops (past_rows value_stopped) refl
  last_row_passes row set (quiet h run) small =
      let here = quiet_value (silent_value env row true (last_set [] row set) h) in
      passes (past_rows (runs-last_value row.value here)) (record { run = run; small = omega arith }) refl
  last_row_passes row set (did h run) small =
      let here = did_value (silent_value env row false (last_set [] row set) h) in
      passes (past_rows (runs-last_value row.value here)) (record { run = run; small = omega arith }) refl

  -- the rows of a value's last block
  pub last_rows_pass : {handler : Option BlockId} {is_test : Bool} {terminal : Terminal} {bound : ℕ}
      {events : List Event} {end : End} (rows : List Instruction) (row : Instruction) → AreSet (rows ++ row ∷ [])
      → (run : GraphRun hir env (rows ++ row ∷ []) terminal events end) → size run ≤ bound
      → Passes hir env handler (RunsRows env is_test (rows_then rows NoRows) (Base (last_value env row.value))) None
      (AtLast hir env terminal bound) bound events end
  last_rows_pass rows row set run small =
      rows_pass rows (row ∷ []) set run small
      (λ events run small. last_row_passes row (last_alone rows row set) run small)

  -- past a value, from the terminal that goes on to a block
  past_goto : {handler : Option BlockId} {value : Value} {next : BlockId} {variant : GotoVariant}
      {id : EvaluationOrder} {span : Option Span} {bound : ℕ} {front back events : List Event} {end : End}
      → RunsValue env false value front Done
      → (run : GraphRun hir env [] (terminals.Goto next variant id span) back end) → size run ≤ bound
      → events ≡ front ++ back → Goes hir env handler value next bound events end
  unfolding size
  past_goto {value} {front = front} here stopped small e =
      stays_inside (subst (λ v. RunsValue env false value v Inside) (sym (e ∙ append-nil front)) (value_stops here))
      refl
  past_goto {front = front} here (moved goes_to run q) small e =
      goes here run (omega arith) (e ∙ ap (λ v. front ++ v) q)

  -- past a value, from the terminal that chooses between two blocks
  past_branch : {handler : Option BlockId} {value : Value} {test : Place} {consequent alternate : BlockId}
      {id : EvaluationOrder} {span : Option Span} {bound : ℕ} {front back events : List Event} {end : End}
      → RunsValue env false value front Done
      → (run : GraphRun hir env [] (terminals.Branch test consequent alternate id span) back end) → size run ≤ bound
      → events ≡ front ++ back → Chooses hir env handler value consequent alternate bound events end
  unfolding size
  past_branch {value} {front = front} here stopped small e =
      stays_in_test (subst (λ v. RunsValue env false value v Inside) (sym (e ∙ append-nil front)) (value_stops here))
      refl
  past_branch {front = front} here (moved then_arm run q) small e =
      holds here run (omega arith) (e ∙ ap (λ v. front ++ v) q)
  past_branch {front = front} here (moved else_arm run q) small e =
      fails here run (omega arith) (e ∙ ap (λ v. front ++ v) q)

  -- past a value that leaves nothing open, and on to the block to which the graph goes
  pub at_goto : {handler : Option BlockId} {value : Value} {left_open : Option BlockId} {next : BlockId}
      {variant : GotoVariant} {id : EvaluationOrder} {span : Option Span} {bound : ℕ} {events : List Event} {end : End}
      → left_open ≡ None
      → Passes hir env handler (RunsValue env false value) left_open
      (AtLast hir env (terminals.Goto next variant id span) bound) bound events end
      → Goes hir env handler value next bound events end
  at_goto closed (stops here e) = stays_inside here e
  at_goto closed (passes here at e) = past_goto here at.run at.small e
  at_goto closed (shortens here left at e) = absurd (let bad : ⊥ = cc in bad)
  at_goto closed (throws_out t) = throws_inside t

  -- past a value that leaves nothing open, and on to one of the blocks between which it chooses
  pub at_branch : {handler : Option BlockId} {value : Value} {left_open : Option BlockId} {test : Place}
      {consequent alternate : BlockId} {id : EvaluationOrder} {span : Option Span} {bound : ℕ} {events : List Event}
      {end : End} → left_open ≡ None
      → Passes hir env handler (RunsValue env false value) left_open
      (AtLast hir env (terminals.Branch test consequent alternate id span) bound) bound events end
      → Chooses hir env handler value consequent alternate bound events end
  at_branch closed (stops here e) = stays_in_test here e
  at_branch closed (passes here at e) = past_branch here at.run at.small e
  at_branch closed (shortens here left at e) = absurd (let bad : ⊥ = cc in bad)
  at_branch closed (throws_out t) = throws_in_test t

  -- the terminal of the last block is known by an equation
  pub ends_in : {handler : Option BlockId} {R : List Event → Progress → Type 0} {left_open : Option BlockId}
      {last other : Terminal} {bound : ℕ} {events : List Event} {end : End} → last ≡ other
      → Passes hir env handler R left_open (AtLast hir env last bound) bound events end
      → Passes hir env handler R left_open (AtLast hir env other bound) bound events end
  ends_in {handler} {R} {left_open} {bound = bound} {events} {end} e d =
      subst (λ t. Passes hir env handler R left_open (AtLast hir env t bound) bound events end) e d

  -- in front of a part, from the terminal of a block that may throw
  pub before_throw : {handler named : Option BlockId} {R : List Event → Progress → Type 0} {left_open : Option BlockId}
      {Behind : List Event → End → Type 0} {continuation : BlockId} {id : EvaluationOrder} {span : Option Span}
      {bound : ℕ} {events : List Event} {end : End} → is_current named handler ≡ true → R [] Inside
      → (run : GraphRun hir env [] (terminals.MaybeThrow continuation named id span) events end) → size run ≤ bound
      → ((events : List Event) (run : GraphRunAt hir env continuation events end) → size_at run < bound
      → Passes hir env handler R left_open Behind bound events end)
      → Passes hir env handler R left_open Behind bound events end
  unfolding size
  before_throw current start stopped small go = stops start refl
  before_throw current start (moved goes_on run q) small go = pass_events q (go _ run (omega arith))
  before_throw {handler} current start (moved (throws {handler = key}) run q) small go =
      throws_out (throws_there [] start (named_handler key handler current)
      (record { run = run; small = omega arith }) refl q)

  -- past a value, from the terminal of a block that may throw
  past_throw : {handler named : Option BlockId} {is_test : Bool} {value : Value} {left_open : Option BlockId}
      {Behind : List Event → End → Type 0} {continuation : BlockId} {id : EvaluationOrder} {span : Option Span}
      {bound : ℕ} {front back : List Event} {end : End} → is_current named handler ≡ true
      → RunsValue env is_test value front Done
      → (run : GraphRun hir env [] (terminals.MaybeThrow continuation named id span) back end) → size run ≤ bound
      → ((events : List Event) (run : GraphRunAt hir env continuation events end) → size_at run < bound
      → Behind events end)
      → Passes hir env handler (RunsValue env is_test value) left_open Behind bound (front ++ back) end
  unfolding size
  past_throw {front = front} current here stopped small go =
      pass_events (append-nil front) (stops (value_stops here) refl)
  past_throw {front = front} current here (moved goes_on run q) small go =
      passes here (go _ run (omega arith)) (ap (λ v. front ++ v) q)
  past_throw {handler} {front = front} current here (moved (throws {handler = key}) run q) small go =
      throws_out (throws_there front (value_stops here) (named_handler key handler current)
      (record { run = run; small = omega arith }) refl q)

  -- past a value whose last block may throw
  pub at_throw : {handler named : Option BlockId} {is_test : Bool} {value : Value} {left_open : Option BlockId}
      {Behind : List Event → End → Type 0} {continuation : BlockId} {id : EvaluationOrder} {span : Option Span}
      {bound : ℕ} {events : List Event} {end : End} → is_current named handler ≡ true
      → ((events : List Event) (run : GraphRunAt hir env continuation events end) → size_at run < bound
      → Behind events end)
      → Passes hir env handler (RunsValue env is_test value) left_open
      (AtLast hir env (terminals.MaybeThrow continuation named id span) bound) bound events end
      → Passes hir env handler (RunsValue env is_test value) left_open Behind bound events end
  at_throw current go (stops here e) = stops here e
  at_throw current go (passes here at e) = pass_events e (past_throw current here at.run at.small go)
  at_throw current go (shortens here left at e) = shortens here left at e
  at_throw current go (throws_out t) = throws_out t
