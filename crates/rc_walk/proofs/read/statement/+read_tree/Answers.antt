use Rattle.rc_tree.proofs.ReadStatementLemmas.{parts-If}
use Rattle.rc_walk.proofs.read.statement.+read_tree.Goals as goal

-- three calls come before the last part of an `If`
pub walk_parts-returns-in_ok-walk_block-in-If : goal.walk_parts-returns-in_ok-walk_block-in-If
walk_parts-returns-in_ok-walk_block-in-If g t c =
    rw (
      c.in-If.is,
      parts-If,
      c.in_ok-visit_id-in-If.ensures,
      c.in_ok-visit_place-in-If.ensures,
      c.in_ok-walk_block-in-If.ensures,
    ) c.walk_block_if.ensures
