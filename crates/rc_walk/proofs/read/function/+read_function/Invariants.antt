-- Each call of the cycle is a step down: from a function to its inside with one more mark, from the inside to its
-- blocks, and so on.
use Rattle.std.proofs.Common.{◌≡◌, ◌+◌, ◌*◌, drop}
use Rattle.rc_tree.specs.Step.{each}
use Rattle.rc_tree.specs.ReadFunction.{basic_block_at, not_entered, row_at}
use Rattle.rc_walk.proofs.read.function.+read_function.Given as goal

abbrev pub decreases-walk_function : goal.decreases-walk_function
decreases-walk_function g l = 7 * not_entered l.entered.now

abbrev pub decreases-walk_numbered : goal.decreases-walk_numbered
decreases-walk_numbered g l = 7 * not_entered l.entered.now + 6

abbrev pub decreases-walk_blocks : goal.decreases-walk_blocks
decreases-walk_blocks g l = 7 * not_entered l.entered.now + 5

abbrev pub decreases-walk_basic_block : goal.decreases-walk_basic_block
decreases-walk_basic_block g l = 7 * not_entered l.entered.now + 4

abbrev pub decreases-walk_rows : goal.decreases-walk_rows
decreases-walk_rows g l = 7 * not_entered l.entered.now + 3

abbrev pub decreases-walk_row : goal.decreases-walk_row
decreases-walk_row g l = 7 * not_entered l.entered.now + 2

abbrev pub decreases-walk_held : goal.decreases-walk_held
decreases-walk_held g l = 7 * not_entered l.entered.now + 1

abbrev pub invariant-walk_blocks-loop-i : goal.invariant-walk_blocks-loop-i
invariant-walk_blocks-loop-i g l =
    let step = basic_block_at (g.V.ReactiveFunctionVisitor.steps l.visitor)
    (g.V.ReactiveFunctionVisitor.functions l.visitor) l.initial.entered l.rows in
    let view = g.V.ReactiveFunctionVisitor.view l.visitor in
    record {
      kept : l.entered ≡ l.initial.entered;
      walk : each step l.blocks (view l.initial.state) ≡ each step (drop l.i l.blocks) (view l.state);
    }

abbrev pub invariant-walk_rows-loop-id : goal.invariant-walk_rows-loop-id
invariant-walk_rows-loop-id g l =
    let step = row_at (g.V.ReactiveFunctionVisitor.steps l.visitor) (g.V.ReactiveFunctionVisitor.functions l.visitor)
    l.initial.entered l.rows in
    let view = g.V.ReactiveFunctionVisitor.view l.visitor in
    record {
      kept : l.entered ≡ l.initial.entered;
      walk : each step l.id-items (view l.initial.state) ≡ each step (drop l.id-index l.id-items) (view l.state);
    }
