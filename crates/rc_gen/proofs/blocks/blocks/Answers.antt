use Rattle.rc_gen.proofs.SizeLemmas.{next_blocks, next_id, next_row}
use Rattle.rc_gen.proofs.blocks.blocks.Goals as goal

-- the blocks of one more unit
pub loop-unit-preserved : goal.loop-unit-preserved
loop-unit-preserved c =
    let before = c.loop-unit.invariant in
    let unit = c.loop-unit.unit in (
      next_blocks unit c.loop-unit.id c.loop-unit.number c.loop-unit.blocks c.add_scope_blocks.new.blocks
          c.add_if_blocks.new.blocks before.0 before.2 before.3 c.in_ok-add_scope_blocks.ensures.ok
          c.in_ok-add_if_blocks.ensures.ok,
      c.in_ok-add_if_blocks.ensures.after,
      next_id unit c.loop-unit.id c.ids-id.result c.of-kind.result before.2 c.ids-id.ensures c.of-kind.ensures,
      next_row unit c.loop-unit.number c.rows-number.result c.of-kind.result before.3 c.rows-number.ensures
          c.of-kind.ensures,
    )
