-- A run from the first position of a value on is a run of the value, and then of what follows it.
--
-- By recursion on the positions of the value.
use Rattle.std.proofs.Common.{◌≡◌, ℕ, ◌<◌, Bool, true, false, List, [], ◌∷◌, ◌++◌, Option, Some, refl, sym, ap, ◌∙◌, subst}
use Rattle.std.proofs.Common.{append_assoc, arith}
use Rattle.std.proofs.lemmas.List.{append-nil}
use Rattle.std.specs.Prelude.{if◌then◌else◌}
use Rattle.rc_names.specs.Numbers.{EvaluationOrder}
use Rattle.rc_names.specs.declared.span.Span.{Span}
use Rattle.rc_hir.specs.Model.{Place, InstructionValue, LogicalOperator, Environment}
use Rattle.rc_runs.specs.Event.{Event, Arm, End, Open}
use Rattle.rc_runs.specs.Silent.{is_silent_value}
use Rattle.rc_runs.specs.PlainTree.{Value, Base, Logical, Conditional, Sequence, Optional, Rows, NoRows, Row}
use Rattle.rc_runs.specs.ValueRun.{Progress, Done, Short, Inside, goes_past, settled, goes_past_row, is_row_of_test}
use Rattle.rc_runs.specs.ValueRun.{is_test_and_rest, RunsValue, RunsRows, RunsRow, value_stopped, quiet_value, did_value}
use Rattle.rc_runs.specs.ValueRun.{in_sequence, in_condition, took_consequent, took_alternate, in_left, left_decides}
use Rattle.rc_runs.specs.ValueRun.{took_right, in_optional_test, took_short_end, took_rest, in_other_optional, past_rows}
use Rattle.rc_runs.specs.ValueRun.{past_row, in_row, unset_row, set_row}
use Rattle.rc_runs.proofs.FlattenedRuns.{inside_stays, value_stops}
use Rattle.rc_runs.proofs.RowRuns.{done_goes_past}
use Rattle.rc_replay.specs.inside.Positions.{Computes, Tests, Table, Follows, FollowsAt, rests, computes, test_holds}
use Rattle.rc_replay.specs.inside.Positions.{test_fails}
use Rattle.rc_replay.specs.inside.LoweredValue.{LowersValue, LowersRows, LowersRow, silent, visible, sequence}
use Rattle.rc_replay.specs.inside.LoweredValue.{conditional, logical, optional_chain, other_optional, no_rows, one_row}
use Rattle.rc_replay.specs.inside.LoweredValue.{unset, set}
use Rattle.rc_replay.proofs.FollowsSize.{size, size_at, entered}

-- the runs of a part of a value
abbrev pub ValueRuns : Type 1
ValueRuns = List Event → Progress → Type 0

-- the test of an optional, with the value after it
abbrev Chain : EvaluationOrder → Option Place → Value → Option Span → EvaluationOrder → Value → Bool → Value
Chain id target test span last rest optional = Optional (Sequence (Row id target test span NoRows) last rest) optional

module _ (table : Table) where
  -- a run begins at a part that has the runs `R`: it stays inside, or comes past the part, or takes its short end
  pub data Crosses (done short bound : ℕ) (R : ValueRuns) (events : List Event) (end : End) : Type 0 where
    stays : R events Inside → end ≡ Open → Crosses done short bound R events end
    passes : {front back : List Event} → R front Done → (run : FollowsAt table done back end) → size_at run < bound →
        events ≡ front ++ back → Crosses done short bound R events end
    shortens : {front back : List Event} → R front Short → (run : FollowsAt table short back end) →
        size_at run < bound → events ≡ front ++ back → Crosses done short bound R events end

  -- so does each shorter run from that number on
  abbrev pub Crossed : ℕ → (done short bound : ℕ) → ValueRuns → Type 0
  Crossed start done short bound R =
      (events : List Event) (end : End) (run : FollowsAt table start events end) → size_at run < bound
      → Crosses done short bound R events end

  -- a run begins at a test: it stays inside, or chooses between two positions
  pub data Decides (env : Environment) (test : Value) (holds fails bound : ℕ) (events : List Event) (end : End) :
      Type 0 where
    stays_in_test : RunsValue env false test events Inside → end ≡ Open → Decides env test holds fails bound events end
    decides_true : {front back : List Event} {past : Progress} → RunsValue env false test front past →
        goes_past past ≡ true → (run : FollowsAt table holds back end) → size_at run < bound →
        events ≡ front ++ Arm true ∷ back → Decides env test holds fails bound events end
    decides_false : {front back : List Event} {past : Progress} → RunsValue env false test front past →
        goes_past past ≡ true → (run : FollowsAt table fails back end) → size_at run < bound →
        events ≡ front ++ Arm false ∷ back → Decides env test holds fails bound events end

-- a run that came past the test may stop where it is
test_stops : {env : Environment} {is_test optional : Bool} {id last : EvaluationOrder} {target : Option Place} {test rest : Value}
    {span : Option Span} {events : List Event} → RunsRow env true id test events Done
    → RunsValue env is_test (Chain id target test span last rest optional) events Inside
test_stops (unset_row u) = value_stopped
test_stops (set_row s run) = in_optional_test (set_row s (value_stops run)) refl

module _ {table : Table} {bound : ℕ} where
  -- the same with equal events
  cross_events : {done short : ℕ} {R : ValueRuns} {events all : List Event} {end : End} → all ≡ events
      → Crosses table done short bound R events end → Crosses table done short bound R all end
  cross_events {done} {short} {R} {end = end} e d = subst (λ v. Crosses table done short bound R v end) (sym e) d

  -- events come before those of the part
  cross_after : {done short : ℕ} {R S : ValueRuns} {events : List Event} {end : End} (before : List Event)
      → ((events : List Event) (progress : Progress) → R events progress → S (before ++ events) progress)
      → Crosses table done short bound R events end → Crosses table done short bound S (before ++ events) end
  cross_after {events = events} before put (stays here e) = stays (put events Inside here) e
  cross_after before put (passes {front = front} {back} here run small e) =
      passes (put front Done here) run small (ap (λ v. before ++ v) e ∙ sym (append_assoc before front back))
  cross_after before put (shortens {front = front} {back} here run small e) =
      shortens (put front Short here) run small (ap (λ v. before ++ v) e ∙ sym (append_assoc before front back))

  -- the same for a part whose short end is the end of the whole
  settled_behind : {done short : ℕ} {R S : ValueRuns} {events : List Event} {end : End} (before : List Event)
      → ((events : List Event) (part progress : Progress) → R events part → progress ≡ settled part
      → S (before ++ events) progress)
      → Crosses table done done bound R events end → Crosses table done short bound S (before ++ events) end
  settled_behind {events = events} before put (stays here e) = stays (put events Inside Inside here refl) e
  settled_behind before put (passes {front = front} {back} here run small e) =
      passes (put front Done Done here refl) run small
      (ap (λ v. before ++ v) e ∙ sym (append_assoc before front back))
  settled_behind before put (shortens {front = front} {back} here run small e) =
      passes (put front Short Done here refl) run small
      (ap (λ v. before ++ v) e ∙ sym (append_assoc before front back))

  -- a row of a sequence, and then the rest of the sequence
  rows_cross : {R S T : ValueRuns} {next done short : ℕ} {events : List Event} {end : End} (of_test : Bool)
      → ((first second : List Event) (row progress : Progress) → R first row → goes_past_row of_test row ≡ true
      → S second progress → T (first ++ second) progress)
      → ((events : List Event) (row : Progress) → R events row → goes_past_row of_test row ≡ false → T events row)
      → Crossed table next done short bound S
      → Crosses table next (if of_test then short else next) bound R events end
      → Crosses table done short bound T events end
  rows_cross of_test following within rest (stays here e) = stays (within _ _ here (inside_stays of_test)) e
  rows_cross of_test following within rest (passes {front = front} here run small e) =
      cross_events e (cross_after front (λ events progress after. following _ _ _ _ here (done_goes_past of_test) after)
      (rest _ _ run small))
  rows_cross false following within rest (shortens {front = front} here run small e) =
      cross_events e (cross_after front (λ events progress after. following _ _ _ _ here refl after) (rest _ _ run small))
  rows_cross true following within rest (shortens here run small e) = shortens (within _ _ here refl) run small e

module _ {table : Table} {env : Environment} {bound : ℕ} where
  visible_crossed : {is_test : Bool} {value : InstructionValue} {done short : ℕ} {events : List Event} {end : End}
      → is_silent_value env value ≡ false → (run : Follows table (Computes value done) events end) → size run < bound
      → Crosses table done short bound (RunsValue env is_test (Base value)) events end
  unfolding size
  visible_crossed s rests small = stays value_stopped refl
  visible_crossed s (computes run) small = passes (did_value s) run (omega arith) refl

  -- past a test
  branched : {test : Value} {holds fails : ℕ} {front back events : List Event} {end : End} {past : Progress}
      → RunsValue env false test front past → goes_past past ≡ true
      → (run : Follows table (Tests holds fails) back end) → size run < bound → events ≡ front ++ back
      → Decides table env test holds fails bound events end
  unfolding size
  branched {test} {front = front} here past rests small e =
      stays_in_test (subst (λ v. RunsValue env false test v Inside) (sym (e ∙ append-nil front)) (value_stops here)) refl
  branched here past (test_holds run) small e = decides_true here past run (omega arith) e
  branched here past (test_fails run) small e = decides_false here past run (omega arith) e

  pub decided : {test : Value} {branch holds fails : ℕ} {events : List Event} {end : End}
      → table branch ≡ Some (Tests holds fails)
      → Crosses table branch branch bound (RunsValue env false test) events end
      → Decides table env test holds fails bound events end
  decided found (stays here e) = stays_in_test here e
  decided found (passes here run small e) =
      let at = entered found run small in branched here refl at.0 at.1 e
  decided found (shortens here run small e) =
      let at = entered found run small in branched here refl at.0 at.1 e

  conditional_crosses : {is_test : Bool} {test consequent alternate : Value} {done short holds fails : ℕ}
      {events : List Event} {end : End} → Crossed table holds done done bound (RunsValue env false consequent)
      → Crossed table fails done done bound (RunsValue env false alternate)
      → Decides table env test holds fails bound events end
      → Crosses table done short bound (RunsValue env is_test (Conditional test consequent alternate)) events end
  conditional_crosses then_arm else_arm (stays_in_test here e) = stays (in_condition here) e
  conditional_crosses then_arm else_arm (decides_true {front = front} {back} here past run small e) =
      cross_events (e ∙ sym (append_assoc front (Arm true ∷ []) back))
      (settled_behind (front ++ Arm true ∷ []) (λ events part progress arm s.
      took_consequent here past arm s (append_assoc front (Arm true ∷ []) events)) (then_arm _ _ run small))
  conditional_crosses then_arm else_arm (decides_false {front = front} {back} here past run small e) =
      cross_events (e ∙ sym (append_assoc front (Arm false ∷ []) back))
      (settled_behind (front ++ Arm false ∷ []) (λ events part progress arm s.
      took_alternate here past arm s (append_assoc front (Arm false ∷ []) events)) (else_arm _ _ run small))

  logical_crosses : {is_test : Bool} {operator : LogicalOperator} {left right : Value} {done short fails : ℕ}
      {events : List Event} {end : End} → Crossed table fails done done bound (RunsValue env false right)
      → Decides table env left done fails bound events end
      → Crosses table done short bound (RunsValue env is_test (Logical operator left right)) events end
  logical_crosses right_arm (stays_in_test here e) = stays (in_left here) e
  logical_crosses right_arm (decides_true {front = front} {back} here past run small e) =
      passes (left_decides here past refl refl) run small (e ∙ sym (append_assoc front (Arm true ∷ []) back))
  logical_crosses right_arm (decides_false {front = front} {back} here past run small e) =
      cross_events (e ∙ sym (append_assoc front (Arm false ∷ []) back))
      (settled_behind (front ++ Arm false ∷ []) (λ events part progress arm s.
      took_right here past arm s (append_assoc front (Arm false ∷ []) events)) (right_arm _ _ run small))

  test_branched : {is_test optional : Bool} {id last : EvaluationOrder} {target : Option Place} {test rest : Value}
      {span : Option Span} {done short holds : ℕ} {front back events : List Event} {end : End}
      → Crossed table holds done done bound (RunsValue env false rest) → RunsRow env true id test front Done
      → (run : Follows table (Tests holds short) back end) → size run < bound → events ≡ front ++ back
      → Crosses table done short bound (RunsValue env is_test (Chain id target test span last rest optional)) events end
  unfolding size
  test_branched {is_test} {optional} {id} {last} {target} {test} {rest} {span} {front = front} arm here rests small e =
      stays (subst (λ v. RunsValue env is_test (Chain id target test span last rest optional) v Inside)
      (sym (e ∙ append-nil front)) (test_stops here)) refl
  test_branched {front = front} arm here (test_holds {events = back} run) small e =
      cross_events (e ∙ sym (append_assoc front (Arm true ∷ []) back))
      (settled_behind (front ++ Arm true ∷ []) (λ events part progress inner s.
      took_rest here inner s (append_assoc front (Arm true ∷ []) events)) (arm _ _ run (omega arith)))
  test_branched {front = front} arm here (test_fails {events = back} run) small e =
      shortens (took_short_end here refl refl) run (omega arith) (e ∙ sym (append_assoc front (Arm false ∷ []) back))

  chain_crosses : {is_test optional : Bool} {id last : EvaluationOrder} {target : Option Place} {test rest : Value}
      {span : Option Span} {done short branch holds : ℕ} {events : List Event} {end : End}
      → Crossed table holds done done bound (RunsValue env false rest) → table branch ≡ Some (Tests holds short)
      → Crosses table branch short bound (RunsRow env true id test) events end
      → Crosses table done short bound (RunsValue env is_test (Chain id target test span last rest optional)) events end
  chain_crosses arm found (stays here e) = stays (in_optional_test here refl) e
  chain_crosses arm found (passes here run small e) =
      let at = entered found run small in test_branched arm here at.0 at.1 e
  chain_crosses arm found (shortens here run small e) = shortens (in_optional_test here refl) run small e

  mutual
    pub value_crossed : {is_test : Bool} {value : Value} {done short start : ℕ}
        → LowersValue table env is_test value done short start
        → Crossed table start done short bound (RunsValue env is_test value)
    value_crossed (silent s) events end run small = passes (quiet_value s) run small refl
    value_crossed (visible s found) events end run small = let at = entered found run small in visible_crossed s at.0 at.1
    value_crossed (sequence l) events end run small =
        cross_after [] (λ events progress here. in_sequence here) (rows_crossed l _ _ run small)
    value_crossed (conditional c a found l) events end run small =
        conditional_crosses (value_crossed c) (value_crossed a) (decided found (value_crossed l _ _ run small))
    value_crossed (logical r found l) events end run small =
        logical_crosses (value_crossed r) (decided found (value_crossed l _ _ run small))
    value_crossed (optional_chain r found l) events end run small =
        chain_crosses (value_crossed r) found (row_crossed l _ _ run small)
    value_crossed (other_optional o l) events end run small =
        settled_behind [] (λ events part progress here s. in_other_optional o here s) (value_crossed l _ _ run small)

    rows_crossed : {is_test : Bool} {rows : Rows} {value : Value} {done short start : ℕ}
        → LowersRows table env is_test rows value done short start
        → Crossed table start done short bound (RunsRows env is_test rows value)
    rows_crossed (no_rows l) events end run small =
        cross_after [] (λ events progress here. past_rows here) (value_crossed l _ _ run small)
    rows_crossed {is_test = is_test} (one_row {target = target} {own = own} {value = value} {rest = rest} l m) events
        end run small =
        rows_cross (is_row_of_test env is_test target own rest value) (λ first second row progress here past after.
        past_row here past after refl)
        (λ events row here inside. in_row here inside) (rows_crossed l) (row_crossed m _ _ run small)

    pub row_crossed : {is_test : Bool} {id : EvaluationOrder} {value : Value} {done short start : ℕ}
        → LowersRow table env is_test id value done short start
        → Crossed table start done short bound (RunsRow env is_test id value)
    row_crossed (unset u) events end run small = passes (unset_row u) run small refl
    row_crossed (set s l) events end run small =
        cross_after [] (λ events progress here. set_row s here) (value_crossed l _ _ run small)
