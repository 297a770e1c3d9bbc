-- Runs of values: the events of a value, and whether the run came past it.
--
-- An optional that chooses its short end goes on after the optional whose test it is, if it answers that test, and so
-- on outward. Everywhere else its short end is its end.
use Rattle.std.specs.Prelude.{◌≡◌, Bool, true, false, List, [], ◌∷◌, ◌++◌, Option, Some}
use Rattle.rc_names.specs.Numbers.{EvaluationOrder}
use Rattle.rc_hir.specs.Model.{Place, Environment}
use Rattle.rc_runs.specs.Event.{Event, Did, Arm}
use Rattle.rc_runs.specs.Silent.{is_unset, is_silent_value}
use Rattle.rc_runs.specs.PlainTree.{Value, Base, Logical, Conditional, Sequence, Optional, Rows, NoRows, Row}
use Rattle.rc_runs.specs.AnsweredTest.{answers_test}

-- where a run of a value is: past the value, past the short end of an optional, or still inside
pub data Progress : Type 0 where
  Done : Progress
  Short : Progress
  Inside : Progress

-- the run goes on after the value
abbrev pub goes_past : Progress → Bool
goes_past Inside = false
goes_past _ = true

-- the run came past the value, and not by a short end
abbrev pub is_done : Progress → Bool
is_done Done = true
is_done _ = false

-- a short end is the end of whatever the value is a part of
abbrev pub settled : Progress → Progress
settled Short = Done
settled progress = progress

-- a run that came to that end is there, or stopped right before it
abbrev pub is_at : Progress → Progress → Bool
is_at Done Inside = true
is_at Done Done = true
is_at Short Inside = true
is_at Short Short = true
is_at end progress = false

-- a row is the last one of an optional's test, and holds an optional that answers the test: its short end is the test's
abbrev pub is_row_of_test : Environment → Bool → Option Place → Value → Rows → Value → Bool
is_row_of_test env false target own rest value = false
is_row_of_test env true (Some place) (Optional own optional) NoRows value = answers_test env place value
is_row_of_test env true target own rest value = false

-- the run goes on after a row
abbrev pub goes_past_row : Bool → Progress → Bool
goes_past_row false progress = goes_past progress
goes_past_row true progress = is_done progress

-- the value is an optional's test as a row, and then the rest
abbrev pub is_test_and_rest : Value → Bool
is_test_and_rest (Sequence (Row id target value span NoRows) last rest) = true
is_test_and_rest value = false

module _ (env : Environment) where
  mutual
    -- a run of a value, which is the test of an optional or not
    pub data RunsValue : Bool → Value → List Event → Progress → Type 0 where
      -- each prefix of a run is a run
      value_stopped : {is_test value : _} → RunsValue is_test value [] Inside
      quiet_value : {is_test value : _} → is_silent_value env value ≡ true → RunsValue is_test (Base value) [] Done
      did_value : {is_test value : _} → is_silent_value env value ≡ false →
          RunsValue is_test (Base value) (Did value ∷ []) Done
      -- the same, stopped right after the event
      did_and_stopped : {is_test value : _} → is_silent_value env value ≡ false →
          RunsValue is_test (Base value) (Did value ∷ []) Inside
      in_sequence : {is_test rows id value events progress : _} → RunsRows is_test rows value events progress →
          RunsValue is_test (Sequence rows id value) events progress
      -- a conditional runs its test, and then one of its arms
      in_condition : {is_test test consequent alternate events : _} → RunsValue false test events Inside →
          RunsValue is_test (Conditional test consequent alternate) events Inside
      took_consequent : {is_test test consequent alternate first second events past arm progress : _} →
          RunsValue false test first past → goes_past past ≡ true → RunsValue false consequent second arm →
          progress ≡ settled arm → events ≡ first ++ (Arm true ∷ second) →
          RunsValue is_test (Conditional test consequent alternate) events progress
      took_alternate : {is_test test consequent alternate first second events past arm progress : _} →
          RunsValue false test first past → goes_past past ≡ true → RunsValue false alternate second arm →
          progress ≡ settled arm → events ≡ first ++ (Arm false ∷ second) →
          RunsValue is_test (Conditional test consequent alternate) events progress
      -- a logical runs its left part, which decides, or else its right part too
      in_left : {is_test operator left right events : _} → RunsValue false left events Inside →
          RunsValue is_test (Logical operator left right) events Inside
      left_decides : {is_test operator left right first events past progress : _} → RunsValue false left first past →
          goes_past past ≡ true → is_at Done progress ≡ true → events ≡ first ++ Arm true ∷ [] →
          RunsValue is_test (Logical operator left right) events progress
      took_right : {is_test operator left right first second events past arm progress : _} →
          RunsValue false left first past → goes_past past ≡ true → RunsValue false right second arm →
          progress ≡ settled arm → events ≡ first ++ (Arm false ∷ second) →
          RunsValue is_test (Logical operator left right) events progress
      -- an optional runs its test, and then the rest, or takes its short end
      in_optional_test : {is_test optional id last target test rest span events progress : _} →
          RunsRow true id test events progress → is_done progress ≡ false →
          RunsValue is_test (Optional (Sequence (Row id target test span NoRows) last rest) optional) events progress
      took_short_end : {is_test optional id last target test rest span first events progress : _} →
          RunsRow true id test first Done → is_at Short progress ≡ true → events ≡ first ++ Arm false ∷ [] →
          RunsValue is_test (Optional (Sequence (Row id target test span NoRows) last rest) optional) events progress
      took_rest : {is_test optional id last target test rest span first second events arm progress : _} →
          RunsRow true id test first Done → RunsValue false rest second arm → progress ≡ settled arm →
          events ≡ first ++ (Arm true ∷ second) →
          RunsValue is_test (Optional (Sequence (Row id target test span NoRows) last rest) optional) events progress
      -- an optional of another form, which no graph spells, runs its value
      in_other_optional : {is_test optional value events part progress : _} → is_test_and_rest value ≡ false →
          RunsValue false value events part → progress ≡ settled part →
          RunsValue is_test (Optional value optional) events progress

    -- a run of the rows of a sequence, and then of its value
    pub data RunsRows : Bool → Rows → Value → List Event → Progress → Type 0 where
      past_rows : {is_test value events progress : _} → RunsValue is_test value events progress →
          RunsRows is_test NoRows value events progress
      past_row : {is_test id target own value span rest first second events row progress : _} →
          RunsRow false id own first row → goes_past_row (is_row_of_test env is_test target own rest value) row ≡ true →
          RunsRows is_test rest value second progress → events ≡ first ++ second →
          RunsRows is_test (Row id target own span rest) value events progress
      -- stopped inside the row, or out of the sequence by its short end
      in_row : {is_test id target own value span rest events progress : _} → RunsRow false id own events progress →
          goes_past_row (is_row_of_test env is_test target own rest value) progress ≡ false →
          RunsRows is_test (Row id target own span rest) value events progress

    -- a run of a row: a row whose id is unset has no event
    pub data RunsRow : Bool → EvaluationOrder → Value → List Event → Progress → Type 0 where
      unset_row : {is_test id value : _} → is_unset id ≡ true → RunsRow is_test id value [] Done
      set_row : {is_test id value events progress : _} → is_unset id ≡ false → RunsValue is_test value events progress →
          RunsRow is_test id value events progress
