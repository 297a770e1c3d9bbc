-- A flattened value has the runs of the value itself.
--
-- The rows of nested sequences run in the same order in one sequence. The row for the final value runs as that value
-- does; it is left out for a load alone, which is silent. The `undefined` after it is silent too. The rows keep their
-- ids, and the id of the new row has to be set, as all ids of usable blocks are.
use Rattle.std.proofs.Common.{◌≡◌, Bool, true, false, List, [], ◌∷◌, Option, Some, if◌then◌else◌, refl, sym, ◌∙◌}
use Rattle.std.proofs.Common.{ap, subst}
use Rattle.std.proofs.lemmas.List.{append-nil}
use Rattle.rc_names.specs.Numbers.{BlockId, EvaluationOrder}
use Rattle.rc_names.specs.declared.span.Span.{Span}
use Rattle.rc_hir.specs.Model.{Place, InstructionValue, Instruction, HirFunction, Environment}
use Rattle.rc_hir.specs.Terminal.{evaluation_order}
use Rattle.rc_hir.specs.declared.instruction.InstructionValue.TheVariants as kinds
use Rattle.rc_hir.specs.declared.instruction.PrimitiveValue.TheVariants as primitives
use Rattle.rc_runs.specs.Event.{Event}
use Rattle.rc_runs.specs.Silent.{is_unset, is_silent_value}
use Rattle.rc_runs.specs.PlainTree.{Value, Base, Sequence, Rows, NoRows, Row}
use Rattle.rc_runs.specs.LastRow.{last_value, after_rows}
use Rattle.rc_runs.specs.ListContext.{ValueContext}
use Rattle.rc_runs.specs.Flattened.{rows_join, flat_rows, final_value, loads_own, final_row, flattened}
use Rattle.rc_runs.specs.ValueEnd.{ValueEnd}
use Rattle.rc_runs.specs.LoopValues.{shown}
use Rattle.rc_runs.specs.ValueGrammar.{SpellsValue, named_test, last_block, last_throw, may_throw, value_row}
use Rattle.rc_runs.specs.ValueRun.{Progress, Done, Short, Inside, goes_past, is_done, goes_past_row, is_row_of_test}
use Rattle.rc_runs.specs.ValueRun.{RunsValue, value_stopped, quiet_value, did_value, did_and_stopped, in_sequence}
use Rattle.rc_runs.specs.ValueRun.{in_condition, took_consequent, took_alternate, in_left, left_decides, took_right}
use Rattle.rc_runs.specs.ValueRun.{in_optional_test, took_short_end, took_rest, in_other_optional, RunsRows, past_rows}
use Rattle.rc_runs.specs.ValueRun.{past_row, in_row, RunsRow, unset_row, set_row}
use Rattle.rc_runs.proofs.SetIds.{usable_block-set, last_set, AreSet}
use Rattle.rc_runs.proofs.LastRowLemmas.{runs_alike}

-- a run that doesn't go on after a row isn't done with it, and stays in it where it is stopped
not_past_not_done : (of_test : Bool) (progress : Progress) → goes_past_row of_test progress ≡ false
    → is_done progress ≡ false
not_past_not_done true progress e = e
not_past_not_done false Inside e = refl
not_past_not_done false Short e = refl
not_past_not_done false Done e = absurd (let bad : ⊥ = cc in bad)

pub inside_stays : (of_test : Bool) → goes_past_row of_test Inside ≡ false
inside_stays true = refl
inside_stays false = refl

-- the value after all rows is an instruction, which has no short end
abbrev pub ends_in_base : Value → Bool
ends_in_base (Base value) = true
ends_in_base (Sequence rows id value) = ends_in_base value
ends_in_base value = false

module _ {env : Environment} where
  mutual
    -- a run that came past the value may stop where it is
    pub value_stops : {is_test : Bool} {value : Value} {events : List Event} {progress : Progress}
        → RunsValue env is_test value events progress → RunsValue env is_test value events Inside
    value_stops value_stopped = value_stopped
    value_stops (quiet_value h) = value_stopped
    value_stops (did_value h) = did_and_stopped h
    value_stops (did_and_stopped h) = did_and_stopped h
    value_stops (in_sequence run) = in_sequence (rows_stop run)
    value_stops (in_condition run) = in_condition run
    value_stops (took_consequent test past arm p e) = took_consequent test past (value_stops arm) refl e
    value_stops (took_alternate test past arm p e) = took_alternate test past (value_stops arm) refl e
    value_stops (in_left run) = in_left run
    value_stops (left_decides left past at e) = left_decides left past refl e
    value_stops (took_right left past arm p e) = took_right left past (value_stops arm) refl e
    value_stops (in_optional_test row not_done) = in_optional_test (row_stops row not_done) refl
    value_stops (took_short_end row at e) = took_short_end row refl e
    value_stops (took_rest row rest p e) = took_rest row (value_stops rest) refl e
    value_stops (in_other_optional other run p) = in_other_optional other (value_stops run) refl

    rows_stop : {is_test : Bool} {rows : Rows} {value : Value} {events : List Event} {progress : Progress}
        → RunsRows env is_test rows value events progress → RunsRows env is_test rows value events Inside
    rows_stop (past_rows run) = past_rows (value_stops run)
    rows_stop (past_row first past run e) = past_row first past (rows_stop run) e
    rows_stop {is_test = is_test} {value = value} (in_row {target = target} {own = own} {rest = rest} {progress = p} run
        not_past) =
        let of_test = is_row_of_test env is_test target own rest value in
        in_row (row_stops run (not_past_not_done of_test p not_past)) (inside_stays of_test)

    row_stops : {is_test : Bool} {id : EvaluationOrder} {value : Value} {events : List Event} {progress : Progress}
        → RunsRow env is_test id value events progress → is_done progress ≡ false
        → RunsRow env is_test id value events Inside
    row_stops (unset_row u) not_done = absurd (let bad : ⊥ = cc in bad)
    row_stops (set_row s run) not_done = set_row s (value_stops run)

  mutual
    -- a value that ends in an instruction is never left by a short end, but where it is the test of an optional
    pub past_is_done : {value : Value} {events : List Event} {progress : Progress} → ends_in_base value ≡ true
        → RunsValue env false value events progress → goes_past progress ≡ true → progress ≡ Done
    past_is_done base value_stopped past = absurd (let bad : ⊥ = cc in bad)
    past_is_done base (quiet_value h) past = refl
    past_is_done base (did_value h) past = refl
    past_is_done base (did_and_stopped h) past = absurd (let bad : ⊥ = cc in bad)
    past_is_done base (in_sequence run) past = past_rows_is_done base run past
    past_is_done base run past = absurd (let bad : ⊥ = cc in bad)

    past_rows_is_done : {rows : Rows} {value : Value} {events : List Event} {progress : Progress}
        → ends_in_base value ≡ true → RunsRows env false rows value events progress → goes_past progress ≡ true
        → progress ≡ Done
    past_rows_is_done base (past_rows run) past = past_is_done base run past
    past_rows_is_done base (past_row first gone run e) past = past_rows_is_done base run past
    past_rows_is_done base (in_row run not_past) past = absurd (let bad : ⊥ = cc in bad)

  row_stopped : {id : EvaluationOrder} {target : Option Place} {own : Value} {span : Option Span} {rest : Rows}
      {value : Value} (unset : Bool) → is_unset id ≡ unset → RunsRows env false rest value [] Inside
      → RunsRows env false (Row id target own span rest) value [] Inside
  row_stopped true u run = past_row (unset_row u) refl run refl
  row_stopped false s run = in_row (set_row s value_stopped) refl

  -- a run may stop in front of the rows
  rows_stopped : (rows : Rows) {value : Value} → RunsRows env false rows value [] Inside
  rows_stopped NoRows = past_rows value_stopped
  rows_stopped (Row id target own span rest) = row_stopped (is_unset id) refl (rows_stopped rest)

-- a load of the place's own identifier is silent
loads_own-silent : (env : Environment) (answer : Place) (value : InstructionValue)
    → loads_own answer (Base value) ≡ true → is_silent_value env value ≡ true
unfolding is_silent_value
loads_own-silent env answer (kinds.LoadLocal place span) own = refl
loads_own-silent env answer value own = absurd (let bad : ⊥ = cc in bad)

undefined-silent : (env : Environment) (span : Option Span)
    → is_silent_value env (kinds.Primitive primitives.Undefined span) ≡ true
unfolding is_silent_value
undefined-silent env span = refl

-- the value of a flattened sequence
abbrev undefined : Option Span → Value
undefined span = Base (kinds.Primitive primitives.Undefined span)

module _ (env : Environment) (answer : Place) (id : EvaluationOrder) (span : Option Span) where
  -- the runs of these rows as those of a flattened sequence
  abbrev FlatRuns : Rows → List Event → Progress → Type 0
  FlatRuns rows events progress = RunsRows env false rows (undefined span) events progress

  load_as_undefined : (value : Value) {events : List Event} {progress : Progress} → loads_own answer value ≡ true
      → RunsValue env false value events progress → RunsValue env false (undefined span) events progress
  load_as_undefined (Base value) own run =
      let silent = loads_own-silent env answer value own in
      let same = undefined-silent env span in
      runs_alike value (kinds.Primitive primitives.Undefined span) (silent ∙ sym same)
      (λ seen. absurd (let bad : ⊥ = cc in bad)) run
  load_as_undefined value own run = absurd (let bad : ⊥ = cc in bad)

  undefined_as_load : (value : Value) {events : List Event} {progress : Progress} → loads_own answer value ≡ true
      → RunsValue env false (undefined span) events progress → RunsValue env false value events progress
  undefined_as_load (Base value) own run =
      let silent = loads_own-silent env answer value own in
      let same = undefined-silent env span in
      runs_alike (kinds.Primitive primitives.Undefined span) value (same ∙ sym silent)
      (λ seen. absurd (let bad : ⊥ = cc in bad)) run
  undefined_as_load value own run = absurd (let bad : ⊥ = cc in bad)

  module _ (set : is_unset id ≡ false) where
    -- a run of the final value is one of its row
    to_row : {value : Value} {events : List Event} (progress : Progress) → ends_in_base value ≡ true
        → RunsValue env false value events progress → FlatRuns (Row id (Some answer) value span NoRows) events progress
    to_row {events = events} Done base run =
        past_row (set_row set run) refl (past_rows (quiet_value (undefined-silent env span))) (sym (append-nil events))
    to_row Short base run = absurd (let bad : ⊥ = cc (past_is_done base run refl) in bad)
    to_row Inside base run = in_row (set_row set run) refl

    from_row : {value : Value} {events : List Event} {progress : Progress} → ends_in_base value ≡ true
        → FlatRuns (Row id (Some answer) value span NoRows) events progress → RunsValue env false value events progress
    from_row base (past_row (unset_row u) past run e) = absurd (let bad : ⊥ = cc in bad)
    from_row {value} base (past_row {first = first} (set_row s own) past (past_rows value_stopped) e) =
        subst (λ l. RunsValue env false value l Inside) (sym (e ∙ append-nil first)) (value_stops own)
    from_row {value} base (past_row {first = first} (set_row s own) past (past_rows (quiet_value h)) e) =
        subst (λ l. RunsValue env false value l Done) (sym (e ∙ append-nil first))
        (subst (RunsValue env false value first) (past_is_done base own past) own)
    from_row base (past_row (set_row s own) past (past_rows (did_value h)) e) =
        absurd (let bad : ⊥ = cc (undefined-silent env span) in bad)
    from_row base (past_row (set_row s own) past (past_rows (did_and_stopped h)) e) =
        absurd (let bad : ⊥ = cc (undefined-silent env span) in bad)
    from_row base (in_row (unset_row u) not_past) = absurd (let bad : ⊥ = cc in bad)
    from_row base (in_row (set_row s own) not_past) = own

    -- the same where the row is left out for a load
    to_final : (value : Value) {events : List Event} {progress : Progress} → ends_in_base value ≡ true
        → RunsValue env false value events progress → FlatRuns (final_row answer id span value) events progress
    to_final value {events} {progress} base run = go (loads_own answer value) refl
      where
        go : (own : Bool) → loads_own answer value ≡ own
            → FlatRuns (if own then NoRows else Row id (Some answer) value span NoRows) events progress
        go true own = past_rows (load_as_undefined value own run)
        go false own = to_row progress base run

    from_final : (value : Value) {events : List Event} {progress : Progress} → ends_in_base value ≡ true
        → FlatRuns (final_row answer id span value) events progress → RunsValue env false value events progress
    from_final value {events} {progress} base run = go (loads_own answer value) refl run
      where
        go : (own : Bool) → loads_own answer value ≡ own
            → FlatRuns (if own then NoRows else Row id (Some answer) value span NoRows) events progress
            → RunsValue env false value events progress
        go true own (past_rows run) = undefined_as_load value own run
        go false own run = from_row base run

    -- the rows of a sequence, and then those of its value
    join_rows : (rows front more : Rows) {value : Value} {events : List Event} {progress : Progress}
        → ((events : List Event) (progress : Progress) → RunsValue env false value events progress
        → FlatRuns (rows_join front more) events progress)
        → RunsRows env false rows value events progress
        → FlatRuns (rows_join (rows_join rows front) more) events progress
    join_rows NoRows front more behind (past_rows run) = behind _ _ run
    join_rows (Row first target own at rest) front more behind (past_row one past run e) =
        past_row one past (join_rows rest front more behind run) e
    join_rows (Row first target own at rest) front more behind (in_row one not_past) = in_row one not_past

    part_rows : (rows front more : Rows) {value : Value} {events : List Event} {progress : Progress}
        → ((events : List Event) (progress : Progress) → FlatRuns (rows_join front more) events progress
        → RunsValue env false value events progress)
        → FlatRuns (rows_join (rows_join rows front) more) events progress
        → RunsRows env false rows value events progress
    part_rows NoRows front more behind run = past_rows (behind _ _ run)
    part_rows (Row first target own at rest) front more behind (past_row one past run e) =
        past_row one past (part_rows rest front more behind run) e
    part_rows (Row first target own at rest) front more behind (in_row one not_past) = in_row one not_past

    to_flat : (value : Value) {events : List Event} {progress : Progress} → ends_in_base value ≡ true
        → RunsValue env false value events progress
        → FlatRuns (rows_join (flat_rows value) (final_row answer id span (final_value value))) events progress
    to_flat (Sequence rows own value) base value_stopped =
        rows_stopped (rows_join (rows_join rows (flat_rows value)) (final_row answer id span (final_value value)))
    to_flat (Sequence rows own value) base (in_sequence run) =
        join_rows rows (flat_rows value) (final_row answer id span (final_value value))
        (λ events progress run. to_flat value base run) run
    to_flat value base run = to_final value base run

    from_flat : (value : Value) {events : List Event} {progress : Progress} → ends_in_base value ≡ true
        → FlatRuns (rows_join (flat_rows value) (final_row answer id span (final_value value))) events progress
        → RunsValue env false value events progress
    from_flat (Sequence rows own value) base run = in_sequence (part_rows rows (flat_rows value)
        (final_row answer id span (final_value value)) (λ events progress run. from_flat value base run) run)
    from_flat value base run = from_final value base run

-- a run of a value is a run of the flattened value
runs-flattened : {env : Environment} (answer : Place) (id : EvaluationOrder) (span : Option Span) (value : Value)
    {events : List Event} {progress : Progress} → is_unset id ≡ false → ends_in_base value ≡ true
    → RunsValue env false value events progress → RunsValue env false (flattened answer id span value) events progress
runs-flattened {env} answer id span value set base run = in_sequence (to_flat env answer id span set value base run)

-- a run of the flattened value is a run of the value
flattened-runs : {env : Environment} (answer : Place) (id : EvaluationOrder) (span : Option Span) (value : Value)
    {events : List Event} {progress : Progress} → is_unset id ≡ false → ends_in_base value ≡ true
    → RunsValue env false (flattened answer id span value) events progress → RunsValue env false value events progress
flattened-runs answer id span value set base value_stopped = value_stopped
flattened-runs {env} answer id span value set base (in_sequence run) = from_flat env answer id span set value base run

-- the id of a spelled value is set
pub value_set : {hir : HirFunction} {env : Environment} {key : BlockId} {context : ValueContext} {value : Value}
    {end : ValueEnd} {used : List BlockId} → SpellsValue hir env key context value end used → is_unset end.id ≡ false
value_set {hir} {key = key} (named_test {block = block} found empty ends) =
    sym (ap (λ t. is_unset (evaluation_order t)) ends) ∙ (usable_block-set hir key block found).terminal
value_set {hir} {key = key} (last_block {block = block} rows row found ends whole) =
    last_set rows row (subst AreSet whole (usable_block-set hir key block found).rows)
value_set {hir} {key = key} (last_throw {block = block} rows row found ends current whole goes only) =
    last_set rows row (subst AreSet whole (usable_block-set hir key block found).rows)
value_set (may_throw found ends current more behind whole) = value_set behind
value_set (value_row found row behind arm whole end used) =
    ap (λ (e : ValueEnd). is_unset e.id) end ∙ value_set behind

-- with rows before it, a value ends as it does without them
after_rows-base : (rows : List Instruction) (id : EvaluationOrder) (value : Value)
    → ends_in_base (after_rows rows id value) ≡ ends_in_base value
after_rows-base [] id value = refl
after_rows-base (row ∷ rows) id value = refl

-- a spelled value ends in an instruction
pub value_base : {hir : HirFunction} {env : Environment} {key : BlockId} {context : ValueContext} {value : Value}
    {end : ValueEnd} {used : List BlockId} → SpellsValue hir env key context value end used
    → ends_in_base value ≡ true
value_base (named_test found empty ends) = refl
value_base {env = env} (last_block rows row found ends whole) =
    after_rows-base rows row.id (Base (last_value env row.value))
value_base {env = env} (last_throw rows row found ends current whole goes only) =
    after_rows-base rows row.id (Base (last_value env row.value))
value_base (may_throw {block = block} {value = value} {end = end} found ends current more behind whole) =
    ap ends_in_base whole ∙ after_rows-base block.rows end.id value ∙ value_base behind
value_base (value_row found row behind arm whole end used) = ap ends_in_base whole ∙ value_base behind

-- a run of a spelled value is a run of the value as it is in a loop
pub runs-shown : {hir : HirFunction} {env : Environment} {key : BlockId} {context : ValueContext} {value : Value}
    {end : ValueEnd} {used : List BlockId} {events : List Event} {progress : Progress} (flat : Bool)
    (span : Option Span) → SpellsValue hir env key context value end used → RunsValue env false value events progress
    → RunsValue env false (shown flat span end value) events progress
runs-shown {value = value} {end} true span spelled run =
    runs-flattened end.answer end.id span value (value_set spelled) (value_base spelled) run
runs-shown false span spelled run = run

-- a run of the value as it is in a loop is a run of the spelled value
pub shown-runs : {hir : HirFunction} {env : Environment} {key : BlockId} {context : ValueContext} {value : Value}
    {end : ValueEnd} {used : List BlockId} {events : List Event} {progress : Progress} (flat : Bool)
    (span : Option Span) → SpellsValue hir env key context value end used
    → RunsValue env false (shown flat span end value) events progress → RunsValue env false value events progress
shown-runs {value = value} {end} true span spelled run =
    flattened-runs end.answer end.id span value (value_set spelled) (value_base spelled) run
shown-runs false span spelled run = run
