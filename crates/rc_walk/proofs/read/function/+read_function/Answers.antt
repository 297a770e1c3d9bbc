use Rattle.std.proofs.Common.{◌∙◌, rules, Err}
use Rattle.rc_tree.proofs.ReadFunctionLemmas.{place_fault, place_next}
use Rattle.rc_tree.specs.Step.{IsStep, each}
use Rattle.rc_tree.specs.ReadFunction.{basic_block_at}
use Rattle.rc_walk.proofs.read.function.+read_function.Goals as goal

-- a fault in a block is the fault of the blocks
pub walk_blocks-returns-in_err-walk_basic_block-clause-walk :
    goal.walk_blocks-returns-in_err-walk_basic_block-clause-walk
walk_blocks-returns-in_err-walk_basic_block-clause-walk g t c =
    let step = basic_block_at (g.V.ReactiveFunctionVisitor.steps c.args.visitor.now)
    (g.V.ReactiveFunctionVisitor.functions c.args.visitor.now) c.args.entered.now c.args.rows.now in
    let view = g.V.ReactiveFunctionVisitor.view c.args.visitor.now in
    let fault = c.in_err-walk_basic_block.field-0.0 in
    let all = each step c.args.blocks.now (view c.args.state.now) in
    let bad : IsStep all (Err fault) (view c.walk_basic_block.new.state) =
    place_fault step all c.args.blocks.now c.loop-i.i c.len-i-end.result
    (view c.loop-i.state) (view c.walk_basic_block.new.state) fault
    c.loop-i.invariant.walk c.loop-i-test.true c.len-i-end.ensures.value
    (rw c.loop-i.invariant.kept at c.in_err-walk_basic_block.ensures.walk) in
    search rules

-- the blocks that are left after a block
pub walk_blocks-loop-i-preserved : goal.walk_blocks-loop-i-preserved
walk_blocks-loop-i-preserved g t c =
    let step = basic_block_at (g.V.ReactiveFunctionVisitor.steps c.args.visitor.now)
    (g.V.ReactiveFunctionVisitor.functions c.args.visitor.now) c.args.entered.now c.args.rows.now in
    let view = g.V.ReactiveFunctionVisitor.view c.args.visitor.now in
    record {
      kept = c.in_ok-walk_basic_block.ensures.kept ∙ c.loop-i.invariant.kept;
      walk = place_next step (each step c.args.blocks.now (view c.args.state.now)) c.args.blocks.now c.loop-i.i
          c.len-i-end.result (view c.loop-i.state) (view c.walk_basic_block.new.state)
          c.loop-i.invariant.walk c.loop-i-test.true c.len-i-end.ensures.value
          (rw c.loop-i.invariant.kept at c.in_ok-walk_basic_block.ensures.walk);
    }
