-- Each run of the rows of a value's block is a run of the graph: those before a value terminal, those before the value
-- at another block, and those of a last block.
use Rattle.std.proofs.Common.{Bool, List, [], ◌∷◌, ◌++◌, Option, subst}
use Rattle.std.proofs.lemmas.List.{append-nil}
use Rattle.rc_names.specs.Numbers.{BlockId, EvaluationOrder}
use Rattle.rc_hir.specs.Model.{Terminal, Instruction, HirFunction, Environment}
use Rattle.rc_runs.specs.Event.{Event, End}
use Rattle.rc_runs.specs.GraphRun.{GraphRun, stopped}
use Rattle.rc_runs.specs.PlainTree.{Value, Base, Rows, NoRows}
use Rattle.rc_runs.specs.LastRow.{last_value, rows_then, after_rows}
use Rattle.rc_runs.specs.ValueRun.{Progress, RunsValue, value_stopped}
use Rattle.rc_runs.specs.ValueRun.{in_sequence, RunsRows, past_rows, past_row, in_row, set_row}
use Rattle.rc_runs.proofs.SetIds.{AreSet, last_set}
use Rattle.rc_runs.proofs.LastRowLemmas.{last_value-runs}
use Rattle.rc_runs.proofs.ShortArmLemmas.{past_row_is_past}
use Rattle.rc_runs.proofs.Covers.{Covers, stays, and_on, out_of_row, covers_then, row_covered}

-- the value after no rows
behind_no_rows : {hir : HirFunction} {env : Environment} {left : Option BlockId} {is_test : Bool} {value : Value}
    {whole after : List Event → End → Type 0} {events : List Event} {progress : Progress}
    → ((events : List Event) (progress : Progress) → RunsValue env is_test value events progress
    → Covers hir env left whole after events progress)
    → RunsRows env is_test NoRows value events progress → Covers hir env left whole after events progress
behind_no_rows tail (past_rows run) = tail _ _ run

module _ {hir : HirFunction} {env : Environment} {left : Option BlockId} {is_test : Bool} {terminal : Terminal} where
  -- the rows of a block, and then what more rows of the sequence represent
  pub rows_covered : (rows behind : List Instruction) {more : Rows} {value : Value}
      {after : List Event → End → Type 0} {events : List Event} {progress : Progress}
      → ((events : List Event) (progress : Progress) → RunsRows env is_test more value events progress
      → Covers hir env left (GraphRun hir env behind terminal) after events progress)
      → RunsRows env is_test (rows_then rows more) value events progress
      → Covers hir env left (GraphRun hir env (rows ++ behind) terminal) after events progress
  rows_covered [] behind tail run = tail _ _ run
  rows_covered (row ∷ rows) behind tail (past_row one past run e) =
      covers_then (and_on (row_covered row one) (past_row_is_past _ _ past)) (rows_covered rows behind tail run) e
  rows_covered (row ∷ rows) behind tail (in_row one out) = out_of_row _ (row_covered row one) out

  -- the rows of a block, and then the value after them
  pub after_rows_covered : (rows : List Instruction) (id : EvaluationOrder) {value : Value}
      {after : List Event → End → Type 0} {events : List Event} {progress : Progress}
      → ((events : List Event) (progress : Progress) → RunsValue env is_test value events progress
      → Covers hir env left (GraphRun hir env [] terminal) after events progress)
      → RunsValue env is_test (after_rows rows id value) events progress
      → Covers hir env left (GraphRun hir env rows terminal) after events progress
  after_rows_covered [] id tail run = tail _ _ run
  after_rows_covered (first ∷ rows) id tail value_stopped = stays stopped
  after_rows_covered (first ∷ rows) id {after = after} {events} {progress} tail (in_sequence run) =
      subst (λ l. Covers hir env left (GraphRun hir env l terminal) after events progress) (append-nil (first ∷ rows))
      (rows_covered (first ∷ rows) [] (λ events progress run. behind_no_rows tail run) run)

  -- the last row of a value's last block is the value
  last_covered : (rows : List Instruction) (row : Instruction) → AreSet (rows ++ row ∷ []) → (events : List Event)
      (progress : Progress) → RunsRows env is_test NoRows (Base (last_value env row.value)) events progress
      → Covers hir env left (GraphRun hir env (row ∷ []) terminal) (GraphRun hir env [] terminal) events progress
  last_covered rows row set events progress (past_rows run) =
      row_covered row (set_row (last_set rows row set) (last_value-runs row.value run))

  pub last_block_covered : (rows : List Instruction) (row : Instruction) {events : List Event} {progress : Progress}
      → AreSet (rows ++ row ∷ [])
      → RunsValue env is_test (after_rows rows row.id (Base (last_value env row.value))) events progress
      → Covers hir env left (GraphRun hir env (rows ++ row ∷ []) terminal) (GraphRun hir env [] terminal) events
      progress
  last_block_covered [] row set run = last_covered [] row set _ _ (past_rows run)
  last_block_covered (first ∷ rows) row set value_stopped = stays stopped
  last_block_covered (first ∷ rows) row set (in_sequence run) =
      rows_covered (first ∷ rows) (row ∷ []) (last_covered (first ∷ rows) row set) run
