-- A value has the same runs with the flags of its instructions and without them: an instruction that has the flag is
-- silent.
use Rattle.std.proofs.Common.{◌≡◌, Bool, true, false, List, [], ◌∷◌, Option, Some, None, refl, sym, ap, ◌∙◌, subst}
use Rattle.rc_names.specs.Numbers.{EvaluationOrder}
use Rattle.rc_names.specs.declared.span.Span.{Span}
use Rattle.rc_hir.specs.Model.{Environment, InstructionValue, Place}
use Rattle.rc_hir.specs.declared.instruction.InstructionValue.TheVariants as kinds
use Rattle.rc_runs.specs.Event.{Event, Did}
use Rattle.rc_runs.specs.Silent.{is_silent_value}
use Rattle.rc_runs.specs.PlainTree.{Value, Base, Logical, Conditional, Sequence, Optional, Rows, NoRows, Row}
use Rattle.rc_runs.specs.AnsweredTest.{answers_test}
use Rattle.rc_runs.specs.ValueRun.{Progress, Done, Inside, goes_past_row, is_row_of_test, is_test_and_rest, RunsValue}
use Rattle.rc_runs.specs.ValueRun.{value_stopped, quiet_value, did_value, did_and_stopped, in_sequence, in_condition}
use Rattle.rc_runs.specs.ValueRun.{took_consequent, took_alternate, in_left, left_decides, took_right, in_optional_test}
use Rattle.rc_runs.specs.ValueRun.{took_short_end, took_rest, in_other_optional, RunsRows, past_rows, past_row, in_row}
use Rattle.rc_runs.specs.ValueRun.{RunsRow, unset_row, set_row}
use Rattle.rc_runs.specs.Erase.{without_flag}
use Rattle.rc_runs.proofs.ErasedTreeLemmas.{plain_value, plain_rows}

same_silence : (env : Environment) (value : InstructionValue) →
    is_silent_value env (without_flag value) ≡ is_silent_value env value
unfolding is_silent_value
same_silence env (kinds.FinishMemoize manual_memo_id decl pruned span) = refl
same_silence env value = refl

-- an instruction with an event has no flag
seen_stays : (env : Environment) (value : InstructionValue) → is_silent_value env value ≡ false →
    without_flag value ≡ value
unfolding is_silent_value
seen_stays env (kinds.FinishMemoize manual_memo_id decl pruned span) e = absurd (let bad : ⊥ = cc in bad)
seen_stays env value e = refl

-- no flag matters for the test that a value answers
answers_test-plain : (env : Environment) (place : Place) (value : Value)
    → answers_test env place (plain_value value) ≡ answers_test env place value
answers_test-plain env place (Base (kinds.FinishMemoize manual_memo_id decl pruned span)) = refl
answers_test-plain env place (Base value) = refl
answers_test-plain env place value = refl

row_of_test-plain : (env : Environment) (is_test : Bool) (target : Option Place) (own : Value) (rest : Rows)
    (value : Value) → is_row_of_test env is_test target (plain_value own) (plain_rows rest) (plain_value value)
    ≡ is_row_of_test env is_test target own rest value
row_of_test-plain env false target own rest value = refl
row_of_test-plain env true None own rest value = refl
row_of_test-plain env true (Some place) (Optional own optional) NoRows value = answers_test-plain env place value
row_of_test-plain env true (Some place) (Optional own optional) (Row id target other span rest) value = refl
row_of_test-plain env true (Some place) own rest value = refl

test_and_rest-plain : (value : Value) → is_test_and_rest (plain_value value) ≡ is_test_and_rest value
test_and_rest-plain (Sequence (Row id target value span NoRows) last rest) = refl
test_and_rest-plain (Sequence (Row id target value span (Row next place other at more)) last rest) = refl
test_and_rest-plain (Sequence NoRows last rest) = refl
test_and_rest-plain value = refl

-- the run goes on after a row without flags where it goes on after the row
past_there : (env : Environment) (is_test : Bool) (target : Option Place) (own : Value) (rest : Rows) (value : Value)
    (progress : Progress) {past : Bool} → goes_past_row (is_row_of_test env is_test target own rest value) progress
    ≡ past
    → goes_past_row (is_row_of_test env is_test target (plain_value own) (plain_rows rest) (plain_value value)) progress
    ≡ past
past_there env is_test target own rest value progress e =
    ap (λ of_test. goes_past_row of_test progress) (row_of_test-plain env is_test target own rest value) ∙ e

past_back : (env : Environment) (is_test : Bool) (target : Option Place) (own : Value) (rest : Rows) (value : Value)
    (progress : Progress) {past : Bool}
    → goes_past_row (is_row_of_test env is_test target (plain_value own) (plain_rows rest) (plain_value value)) progress
    ≡ past
    → goes_past_row (is_row_of_test env is_test target own rest value) progress ≡ past
past_back env is_test target own rest value progress e =
    sym (ap (λ of_test. goes_past_row of_test progress) (row_of_test-plain env is_test target own rest value)) ∙ e

module _ {env : Environment} where
  mutual
    -- from a value to the value without flags
    pub value_there : {is_test : Bool} {value : Value} {events : List Event} {progress : Progress} →
        RunsValue env is_test value events progress → RunsValue env is_test (plain_value value) events progress
    value_there value_stopped = value_stopped
    value_there (quiet_value {value = value} silent) = quiet_value (same_silence env value ∙ silent)
    value_there {is_test = is_test} (did_value {value = value} seen) =
        subst (λ v. RunsValue env is_test (Base (without_flag value)) (Did v ∷ []) Done) (seen_stays env value seen)
        (did_value (same_silence env value ∙ seen))
    value_there {is_test = is_test} (did_and_stopped {value = value} seen) =
        subst (λ v. RunsValue env is_test (Base (without_flag value)) (Did v ∷ []) Inside) (seen_stays env value seen)
        (did_and_stopped (same_silence env value ∙ seen))
    value_there (in_sequence r) = in_sequence (rows_there r)
    value_there (in_condition r) = in_condition (value_there r)
    value_there (took_consequent r past arm p e) = took_consequent (value_there r) past (value_there arm) p e
    value_there (took_alternate r past arm p e) = took_alternate (value_there r) past (value_there arm) p e
    value_there (in_left r) = in_left (value_there r)
    value_there (left_decides r past at e) = left_decides (value_there r) past at e
    value_there (took_right r past arm p e) = took_right (value_there r) past (value_there arm) p e
    value_there (in_optional_test r not_done) = in_optional_test (row_there r) not_done
    value_there (took_short_end r at e) = took_short_end (row_there r) at e
    value_there (took_rest r rest p e) = took_rest (row_there r) (value_there rest) p e
    value_there (in_other_optional {value = value} other r p) =
        in_other_optional (test_and_rest-plain value ∙ other) (value_there r) p

    rows_there : {is_test : Bool} {rows : Rows} {value : Value} {events : List Event} {progress : Progress} →
        RunsRows env is_test rows value events progress →
        RunsRows env is_test (plain_rows rows) (plain_value value) events progress
    rows_there (past_rows r) = past_rows (value_there r)
    rows_there {is_test} {value = value}
        (past_row {target = target} {own = own} {rest = rest} {row = p} r past more e) =
        past_row (row_there r) (past_there env is_test target own rest value p past) (rows_there more) e
    rows_there {is_test} {value = value} (in_row {target = target} {own = own} {rest = rest} {progress = p} r past) =
        in_row (row_there r) (past_there env is_test target own rest value p past)

    pub row_there : {is_test : Bool} {id : EvaluationOrder} {value : Value} {events : List Event}
        {progress : Progress} → RunsRow env is_test id value events progress →
        RunsRow env is_test id (plain_value value) events progress
    row_there (unset_row unset) = unset_row unset
    row_there (set_row set r) = set_row set (value_there r)

module _ (env : Environment) where
  -- from the value without flags to the value
  abbrev ValueBack : Value → Type 0
  ValueBack value = (is_test : Bool) (events : List Event) (progress : Progress) →
      RunsValue env is_test (plain_value value) events progress → RunsValue env is_test value events progress

  by_value : {is_test : Bool} {id : EvaluationOrder} (value : Value) {events : List Event} {progress : Progress} →
      ValueBack value → RunsRow env is_test id (plain_value value) events progress →
      RunsRow env is_test id value events progress
  by_value value back (unset_row unset) = unset_row unset
  by_value value back (set_row set r) = set_row set (back _ _ _ r)

  -- an optional with its two parts, and one of another form
  test_back : {is_test optional : Bool} {id last : EvaluationOrder} {target : Option Place} {span : Option Span}
      (test rest : Value) {events : List Event} {progress : Progress} → ValueBack test → ValueBack rest
      → RunsValue env is_test
      (Optional (Sequence (Row id target (plain_value test) span NoRows) last (plain_value rest))
      optional) events progress
      → RunsValue env is_test (Optional (Sequence (Row id target test span NoRows) last rest) optional) events progress
  test_back test rest back behind value_stopped = value_stopped
  test_back test rest back behind (in_optional_test r not_done) = in_optional_test (by_value test back r) not_done
  test_back test rest back behind (took_short_end r at e) = took_short_end (by_value test back r) at e
  test_back test rest back behind (took_rest r arm p e) = took_rest (by_value test back r) (behind _ _ _ arm) p e
  test_back test rest back behind (in_other_optional other r p) = absurd (let bad : ⊥ = cc in bad)

  other_back : {is_test optional : Bool} {inner : Value} (value : Value) {events : List Event} {progress : Progress}
      → is_test_and_rest value ≡ false → is_test_and_rest inner ≡ is_test_and_rest value
      → ((is_test : Bool) (events : List Event) (progress : Progress) → RunsValue env is_test inner events progress
      → RunsValue env is_test value events progress)
      → RunsValue env is_test (Optional inner optional) events progress
      → RunsValue env is_test (Optional value optional) events progress
  other_back value other same back value_stopped = value_stopped
  other_back value other same back (in_other_optional h r p) = in_other_optional other (back _ _ _ r) p
  other_back value other same back (in_optional_test r not_done) = absurd (let bad : ⊥ = cc in bad)
  other_back value other same back (took_short_end r at e) = absurd (let bad : ⊥ = cc in bad)
  other_back value other same back (took_rest r arm p e) = absurd (let bad : ⊥ = cc in bad)

  mutual
    pub value_back : (value : Value) → ValueBack value
    value_back (Base value) is_test events progress value_stopped = value_stopped
    value_back (Base value) is_test events progress (quiet_value silent) =
        quiet_value (sym (same_silence env value) ∙ silent)
    value_back (Base value) is_test events progress (did_value e) =
        let seen : is_silent_value env value ≡ false = sym (same_silence env value) ∙ e in
        subst (λ v. RunsValue env is_test (Base value) (Did v ∷ []) Done) (sym (seen_stays env value seen))
        (did_value seen)
    value_back (Base value) is_test events progress (did_and_stopped e) =
        let seen : is_silent_value env value ≡ false = sym (same_silence env value) ∙ e in
        subst (λ v. RunsValue env is_test (Base value) (Did v ∷ []) Inside) (sym (seen_stays env value seen))
        (did_and_stopped seen)
    value_back (Logical operator left right) is_test events progress value_stopped = value_stopped
    value_back (Logical operator left right) is_test events progress (in_left r) = in_left (value_back left _ _ _ r)
    value_back (Logical operator left right) is_test events progress (left_decides r past at e) =
        left_decides (value_back left _ _ _ r) past at e
    value_back (Logical operator left right) is_test events progress (took_right r past arm p e) =
        took_right (value_back left _ _ _ r) past (value_back right _ _ _ arm) p e
    value_back (Conditional test consequent alternate) is_test events progress value_stopped = value_stopped
    value_back (Conditional test consequent alternate) is_test events progress (in_condition r) =
        in_condition (value_back test _ _ _ r)
    value_back (Conditional test consequent alternate) is_test events progress (took_consequent r past arm p e) =
        took_consequent (value_back test _ _ _ r) past (value_back consequent _ _ _ arm) p e
    value_back (Conditional test consequent alternate) is_test events progress (took_alternate r past arm p e) =
        took_alternate (value_back test _ _ _ r) past (value_back alternate _ _ _ arm) p e
    value_back (Optional (Sequence (Row id target test span NoRows) last rest) optional) is_test events progress r =
        test_back test rest (value_back test) (value_back rest) r
    value_back (Optional value optional) is_test events progress r =
        other_back value refl (test_and_rest-plain value) (value_back value) r
    value_back (Sequence rows id value) is_test events progress value_stopped = value_stopped
    value_back (Sequence rows id value) is_test events progress (in_sequence r) =
        in_sequence (rows_back rows value (value_back value) r)

    rows_back : {is_test : Bool} (rows : Rows) (value : Value) {events : List Event} {progress : Progress} →
        ValueBack value → RunsRows env is_test (plain_rows rows) (plain_value value) events progress →
        RunsRows env is_test rows value events progress
    rows_back NoRows value back (past_rows r) = past_rows (back _ _ _ r)
    rows_back {is_test} (Row id target own span rest) value back (past_row {row = p} r past more e) =
        past_row (by_value own (value_back own) r) (past_back env is_test target own rest value p past)
        (rows_back rest value back more) e
    rows_back {is_test} (Row id target own span rest) value back (in_row {progress = p} r past) =
        in_row (by_value own (value_back own) r) (past_back env is_test target own rest value p past)

  pub row_back : {is_test : Bool} {id : EvaluationOrder} (value : Value) {events : List Event} {progress : Progress} →
      RunsRow env is_test id (plain_value value) events progress → RunsRow env is_test id value events progress
  row_back value r = by_value value (value_back value) r
