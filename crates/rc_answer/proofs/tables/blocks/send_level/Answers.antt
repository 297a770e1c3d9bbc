use Rattle.std.proofs.Common.{subst}
use Rattle.rc_answer.proofs.LevelsSent.{blocks_grown, level_sent, next_sent, nothing_sent, values_grown, IsBlockSent}
use Rattle.rc_answer.proofs.tables.blocks.send_level.Goals as goal

pub loop-block-init : goal.loop-block-init
loop-block-init g c = nothing_sent _ _ _

pub loop-block-preserved : goal.loop-block-preserved
loop-block-preserved g c =
    next_sent (λ block. block.now) _ _ _ _ _ _ _ _ _ c.loop-block-test.true c.block-item.is c.loop-block.invariant
    (subst (λ xs. IsBlockSent xs c.loop-block.numbering c.send_block.new.numbering
    (g.S.Serializer.written c.loop-block.out) (g.S.Serializer.written c.send_block.new.out)) c.as_slice.ensures
    (record {
      sends = c.in_ok-send_block.ensures.sends;
      again = c.in_ok-send_block.ensures.again;
      blocks = c.in_ok-send_block.ensures.blocks;
      values = c.in_ok-send_block.ensures.values;
    }))

pub returns-clause-sends : goal.returns-clause-sends
returns-clause-sends g c = level_sent (λ block. block.now) _ _ _ _ _ _ c.loop-block-test.false c.loop-block.invariant

pub returns-clause-blocks : goal.returns-clause-blocks
returns-clause-blocks g c =
    blocks_grown (λ block. block.now) _ _ _ _ _ _ c.loop-block-test.false c.loop-block.invariant

pub returns-clause-values : goal.returns-clause-values
returns-clause-values g c =
    values_grown (λ block. block.now) _ _ _ _ _ _ c.loop-block-test.false c.loop-block.invariant
