-- The positions of a value. Each part is told where the run goes on after it, and where after its short end.
use Rattle.std.specs.Prelude.{◌≡◌, ℕ, Bool, true, false, Some, if◌then◌else◌}
use Rattle.rc_names.specs.Numbers.{EvaluationOrder}
use Rattle.rc_hir.specs.Model.{Environment}
use Rattle.rc_runs.specs.Silent.{is_unset, is_silent_value}
use Rattle.rc_runs.specs.PlainTree.{Value, Base, Logical, Conditional, Sequence, Optional, Rows, NoRows, Row}
use Rattle.rc_runs.specs.ValueRun.{is_row_of_test, is_test_and_rest}
use Rattle.rc_replay.specs.inside.Positions.{Computes, Tests, Table}

module _ (table : Table) (env : Environment) where
  mutual
    -- a value, which is the test of an optional or not, begins at the last number
    pub data LowersValue : Bool → Value → (done short : ℕ) → ℕ → Type 0 where
      silent : {is_test value done short : _} → is_silent_value env value ≡ true →
          LowersValue is_test (Base value) done short done
      visible : {is_test value done short start : _} → is_silent_value env value ≡ false →
          table start ≡ Some (Computes value done) → LowersValue is_test (Base value) done short start
      sequence : {is_test rows id value done short start : _} → LowersRows is_test rows value done short start →
          LowersValue is_test (Sequence rows id value) done short start
      conditional : {is_test test consequent alternate done short branch holds fails start : _} →
          LowersValue false consequent done done holds → LowersValue false alternate done done fails →
          table branch ≡ Some (Tests holds fails) → LowersValue false test branch branch start →
          LowersValue is_test (Conditional test consequent alternate) done short start
      logical : {is_test operator left right done short branch fails start : _} →
          LowersValue false right done done fails → table branch ≡ Some (Tests done fails) →
          LowersValue false left branch branch start → LowersValue is_test (Logical operator left right) done short start
      optional_chain : {is_test optional id last target test rest span done short branch holds start : _} →
          LowersValue false rest done done holds → table branch ≡ Some (Tests holds short) →
          LowersRow true id test branch short start →
          LowersValue is_test (Optional (Sequence (Row id target test span NoRows) last rest) optional) done short start
      other_optional : {is_test optional value done short start : _} → is_test_and_rest value ≡ false →
          LowersValue false value done done start → LowersValue is_test (Optional value optional) done short start

    -- the rows of a sequence, and then its value
    pub data LowersRows : Bool → Rows → Value → (done short : ℕ) → ℕ → Type 0 where
      no_rows : {is_test value done short start : _} → LowersValue is_test value done short start →
          LowersRows is_test NoRows value done short start
      one_row : {is_test id target own value span rest done short next start : _} →
          LowersRows is_test rest value done short next →
          LowersRow false id own next (if is_row_of_test env is_test target own rest value then short else next) start →
          LowersRows is_test (Row id target own span rest) value done short start

    -- a row
    pub data LowersRow : Bool → EvaluationOrder → Value → (done short : ℕ) → ℕ → Type 0 where
      unset : {is_test id value done short : _} → is_unset id ≡ true → LowersRow is_test id value done short done
      set : {is_test id value done short start : _} → is_unset id ≡ false → LowersValue is_test value done short start →
          LowersRow is_test id value done short start
