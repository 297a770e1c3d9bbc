-- Each run of a value is a run from its first position on: by recursion on the run of the value.
use Rattle.std.proofs.Common.{◌≡◌, ℕ, Bool, true, false, List, [], ◌∷◌, ◌++◌, refl, sym, ap, ◌∙◌, subst}
use Rattle.std.proofs.Common.{append_assoc}
use Rattle.std.specs.Prelude.{if◌then◌else◌}
use Rattle.rc_names.specs.Numbers.{EvaluationOrder}
use Rattle.rc_hir.specs.Model.{Environment}
use Rattle.rc_runs.specs.Event.{Event, Arm, End, Open}
use Rattle.rc_runs.specs.PlainTree.{Value, Rows}
use Rattle.rc_runs.specs.ValueRun.{Progress, Done, Short, Inside, goes_past, is_done, settled, is_at, goes_past_row}
use Rattle.rc_runs.specs.ValueRun.{is_row_of_test, RunsValue, RunsRows, RunsRow}
use Rattle.rc_runs.specs.ValueRun as runs
use Rattle.rc_replay.specs.inside.Positions.{Table, FollowsAt, arrives, enters, computes, test_holds, test_fails}
use Rattle.rc_replay.specs.inside.LoweredValue.{LowersValue, LowersRows, LowersRow, silent, visible, sequence}
use Rattle.rc_replay.specs.inside.LoweredValue.{conditional, logical, optional_chain, other_optional, no_rows, one_row}
use Rattle.rc_replay.specs.inside.LoweredValue.{unset, set}

-- what follows a value after a run of it that came so far
pub data AfterValue (table : Table) (done short : ℕ) : Progress → List Event → End → Type 0 where
  past : {events end : _} → FollowsAt table done events end → AfterValue table done short Done events end
  past_short : {events end : _} → FollowsAt table short events end → AfterValue table done short Short events end
  stays : AfterValue table done short Inside [] Open

module _ {table : Table} where
  -- the events of two parts, and those after them
  pub joined : {start : ℕ} {events : List Event} {end : End} (first second later : List Event) → events ≡ first ++ second
      → FollowsAt table start (first ++ (second ++ later)) end → FollowsAt table start (events ++ later) end
  joined {start} {end = end} first second later e run =
      subst (λ v. FollowsAt table start v end) (sym (ap (λ v. v ++ later) e ∙ append_assoc first second later)) run

  -- a value that goes on at one position, whichever of its ends it came to
  pub past_either : {next : ℕ} {events : List Event} {end : End} (progress : Progress) → goes_past progress ≡ true
      → FollowsAt table next events end → AfterValue table next next progress events end
  past_either Done p run = past run
  past_either Short p run = past_short run
  past_either Inside p run = absurd (let bad : ⊥ = cc in bad)

  -- a part whose short end is the end of the whole
  of_part : {done short : ℕ} {events : List Event} {end : End} (part : Progress)
      → AfterValue table done short (settled part) events end → AfterValue table done done part events end
  of_part Done (past run) = past run
  of_part Short (past run) = past_short run
  of_part Inside stays = stays

  settle : {done short : ℕ} {events : List Event} {end : End} {progress part : Progress} → progress ≡ settled part
      → AfterValue table done short progress events end → AfterValue table done done part events end
  settle {done} {short} {events} {end} {part = part} e after =
      of_part part (subst (λ p. AfterValue table done short p events end) e after)

  -- a run that came to an end of a value, or stopped right before it
  at_done : {done short : ℕ} {events : List Event} {end : End} {progress : Progress} →
      is_at Done progress ≡ true → AfterValue table done short progress events end
      → FollowsAt table done events end
  at_done at (past run) = run
  at_done at (past_short run) = absurd (let bad : ⊥ = cc in bad)
  at_done at stays = arrives

  at_short : {done short : ℕ} {events : List Event} {end : End} {progress : Progress} →
      is_at Short progress ≡ true → AfterValue table done short progress events end
      → FollowsAt table short events end
  at_short at (past run) = absurd (let bad : ⊥ = cc in bad)
  at_short at (past_short run) = run
  at_short at stays = arrives

  -- the test of an optional, which takes the optional's short end
  not_past : {done short other : ℕ} {events : List Event} {end : End} {progress : Progress} → is_done progress ≡ false
      → AfterValue table done short progress events end → AfterValue table other short progress events end
  not_past n (past run) = absurd (let bad : ⊥ = cc in bad)
  not_past n (past_short run) = past_short run
  not_past n stays = stays

  -- a row, and the rest of its sequence
  past_row : {next : ℕ} {events : List Event} {end : End} (short : ℕ) (of_test : Bool) (row : Progress)
      → goes_past_row of_test row ≡ true → FollowsAt table next events end
      → AfterValue table next (if of_test then short else next) row events end
  past_row short false Done p run = past run
  past_row short false Short p run = past_short run
  past_row short false Inside p run = absurd (let bad : ⊥ = cc in bad)
  past_row short true Done p run = past run
  past_row short true Short p run = absurd (let bad : ⊥ = cc in bad)
  past_row short true Inside p run = absurd (let bad : ⊥ = cc in bad)

  -- a row that the run stays in, or leaves by the short end of its sequence
  in_row : {done short next : ℕ} {events : List Event} {end : End} {row : Progress} (of_test : Bool)
      → goes_past_row of_test row ≡ false → AfterValue table done short row events end
      → AfterValue table next (if of_test then short else next) row events end
  in_row false n (past run) = absurd (let bad : ⊥ = cc in bad)
  in_row false n (past_short run) = absurd (let bad : ⊥ = cc in bad)
  in_row false n stays = stays
  in_row true n (past run) = absurd (let bad : ⊥ = cc in bad)
  in_row true n (past_short run) = past_short run
  in_row true n stays = stays

module _ {table : Table} {env : Environment} where
  mutual
    -- a run of a value, and then of what follows it
    pub value_followed : {is_test : Bool} {value : Value} {events later : List Event} {progress : Progress} {end : End}
        {done short start : ℕ} → RunsValue env is_test value events progress
        → LowersValue table env is_test value done short start
        → AfterValue table done short progress later end → FollowsAt table start (events ++ later) end
    value_followed runs.value_stopped l stays = arrives
    value_followed (runs.quiet_value h) (silent i) (past run) = run
    value_followed (runs.quiet_value h) (visible i e) after = absurd (let bad : ⊥ = cc in bad)
    value_followed (runs.did_value h) (silent i) after = absurd (let bad : ⊥ = cc in bad)
    value_followed (runs.did_value h) (visible i e) (past run) = enters e (computes run)
    value_followed (runs.did_and_stopped h) (silent i) after = absurd (let bad : ⊥ = cc in bad)
    value_followed (runs.did_and_stopped h) (visible i e) stays = enters e (computes arrives)
    value_followed (runs.in_sequence x) (sequence l) after = rows_followed x l after
    value_followed (runs.in_condition x) (conditional c a e l) stays =
        value_followed x l stays
    value_followed {later = later} (runs.took_consequent {first = a} {second = b} {past = p} x h y t q)
        (conditional c other e l) after =
        joined a (Arm true ∷ b) later q
        (value_followed x l
        (past_either p h (enters e (test_holds (value_followed y c (settle t after))))))
    value_followed {later = later} (runs.took_alternate {first = a} {second = b} {past = p} x h y t q)
        (conditional c other e l) after =
        joined a (Arm false ∷ b) later q
        (value_followed x l
        (past_either p h (enters e (test_fails (value_followed y other (settle t after))))))
    value_followed (runs.in_left x) (logical r e l) stays =
        value_followed x l stays
    value_followed {later = later} (runs.left_decides {first = a} {past = p} x h at q) (logical r e l) after =
        joined a (Arm true ∷ []) later q
        (value_followed x l
        (past_either p h (enters e (test_holds (at_done at after)))))
    value_followed {later = later} (runs.took_right {first = a} {second = b} {past = p} x h y t q) (logical r e l)
        after =
        joined a (Arm false ∷ b) later q
        (value_followed x l
        (past_either p h (enters e (test_fails (value_followed y r (settle t after))))))
    value_followed (runs.in_optional_test x n) (optional_chain r e l) after =
        row_followed x l (not_past n after)
    value_followed (runs.in_optional_test x n) (other_optional o l) after = absurd (let bad : ⊥ = cc in bad)
    value_followed {later = later} (runs.took_short_end {first = a} x at q) (optional_chain r e l) after =
        joined a (Arm false ∷ []) later q
        (row_followed x l (past (enters e (test_fails (at_short at after)))))
    value_followed (runs.took_short_end x at q) (other_optional o l) after = absurd (let bad : ⊥ = cc in bad)
    value_followed {later = later} (runs.took_rest {first = a} {second = b} x y t q) (optional_chain r e l) after =
        joined a (Arm true ∷ b) later q
        (row_followed x l (past (enters e (test_holds (value_followed y r (settle t after))))))
    value_followed (runs.took_rest x y t q) (other_optional o l) after = absurd (let bad : ⊥ = cc in bad)
    value_followed (runs.in_other_optional o x t) (optional_chain r e l) after =
        absurd (let bad : ⊥ = cc in bad)
    value_followed (runs.in_other_optional o x t) (other_optional p l) after =
        value_followed x l (settle t after)

    rows_followed : {is_test : Bool} {rows : Rows} {value : Value} {events later : List Event} {progress : Progress}
        {end : End} {done short start : ℕ} → RunsRows env is_test rows value events progress
        → LowersRows table env is_test rows value done short start
        → AfterValue table done short progress later end → FollowsAt table start (events ++ later) end
    rows_followed (runs.past_rows x) (no_rows l) after = value_followed x l after
    rows_followed {is_test = is_test} {later = later} {short = short}
        (runs.past_row {target = target} {own = own} {value = value} {rest = rest} {first = a} {second = b} {row = p} x h
        y q)
        (one_row l m) after =
        let of_test = is_row_of_test env is_test target own rest value in
        joined a b later q
        (row_followed x m (past_row short of_test p h (rows_followed y l after)))
    rows_followed {is_test = is_test} (runs.in_row {target = target} {own = own} {value = value} {rest = rest} x n)
        (one_row l m) after =
        let of_test = is_row_of_test env is_test target own rest value in
        row_followed x m (in_row of_test n after)

    pub row_followed : {is_test : Bool} {id : EvaluationOrder} {value : Value} {events later : List Event}
        {progress : Progress} {end : End} {done short start : ℕ} → RunsRow env is_test id value events progress
        → LowersRow table env is_test id value done short start
        → AfterValue table done short progress later end → FollowsAt table start (events ++ later) end
    row_followed (runs.unset_row u) (unset v) (past run) = run
    row_followed (runs.unset_row u) (set v l) after = absurd (let bad : ⊥ = cc in bad)
    row_followed (runs.set_row i x) (unset v) after = absurd (let bad : ⊥ = cc in bad)
    row_followed (runs.set_row i x) (set v l) after = value_followed x l after
