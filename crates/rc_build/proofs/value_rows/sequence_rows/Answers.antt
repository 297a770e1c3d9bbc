use Rattle.std.proofs.Common.{arith}
use Rattle.rc_names.specs.Numbers.{InstructionId, to_id}
use Rattle.rc_build.proofs.BuildsLemmas.{passed_on}
use Rattle.rc_build.proofs.ValueRowsLemmas.{rows_further, row_at}
use Rattle.rc_build.proofs.value_rows.sequence_rows.Goals as goal

pub returns-in_err-row-clause-refused : goal.returns-in_err-row-clause-refused
returns-in_err-row-clause-refused c = λ named rule e rows has.
    let numbers = c.args.numbers.now in
    let d : InstructionId = to_id 0 in
    let row = row_at c.args.hir.now numbers c.loop-number.number-index d rows (omega (arith, c.loop-number-test.true))
    has in
    c.in_err-row.ensures.refused named rule (passed_on c.from_residual.ensures.1 e) row.0 row.1

pub loop-number-preserved : goal.loop-number-preserved
loop-number-preserved c =
    let d : InstructionId = to_id 0 in
    rows_further c.args.hir.now c.args.numbers.now c.loop-number.number-index d c.in_ok-row.row.now c.loop-number.rows
    c.push.new.self c.in_ok-row-2.row (omega (arith, c.loop-number-test.true)) c.loop-number.invariant
    c.in_ok-row.ensures.ok c.in_ok-row-2.ensures c.in_ok-push.ensures.ok
