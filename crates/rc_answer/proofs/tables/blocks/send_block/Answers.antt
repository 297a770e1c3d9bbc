use Rattle.std.proofs.lemmas.Result.{on_ok_weaker}
use Rattle.rc_answer.proofs.StatementsSent.{block_again, block_sent, blocks_grown, next_sent, nothing_sent}
use Rattle.rc_answer.proofs.StatementsSent.{values_grown}
use Rattle.rc_answer.proofs.tables.blocks.send_block.Goals as goal

pub loop-statement-init : goal.loop-statement-init
loop-statement-init g c = nothing_sent _ _ _

pub loop-statement-preserved : goal.loop-statement-preserved
loop-statement-preserved g c =
    next_sent _ _ _ _ _ _ _ _ _ c.loop-statement-test.true c.statement-item.is c.loop-statement.invariant
    (record {
      sends = c.in_ok-send_statement.ensures.sends;
      again = c.in_ok-send_statement.ensures.again;
      blocks = c.in_ok-send_statement.ensures.blocks;
      values = c.in_ok-send_statement.ensures.values;
    })

pub returns-clause-sends : goal.returns-clause-sends
returns-clause-sends g c =
    on_ok_weaker c.end_seq.result
    (block_sent _ _ _ _ _ _ c.loop-statement-test.false c.loop-statement.invariant _ _ c.in_ok-begin_seq.ensures)
    c.end_seq.ensures

pub returns-clause-again : goal.returns-clause-again
returns-clause-again g c =
    on_ok_weaker c.end_seq.result
    (λ ended. block_again _ _ _ _ _ _ c.loop-statement-test.false c.loop-statement.invariant)
    c.end_seq.ensures

pub returns-clause-blocks : goal.returns-clause-blocks
returns-clause-blocks g c =
    on_ok_weaker c.end_seq.result
    (λ ended. blocks_grown _ _ _ _ _ _ c.loop-statement-test.false c.loop-statement.invariant)
    c.end_seq.ensures

pub returns-clause-values : goal.returns-clause-values
returns-clause-values g c =
    on_ok_weaker c.end_seq.result
    (λ ended. values_grown _ _ _ _ _ _ c.loop-statement-test.false c.loop-statement.invariant)
    c.end_seq.ensures
