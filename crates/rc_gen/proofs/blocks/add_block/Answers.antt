-- A block under a number above all others is put last.
use Rattle.rc_gen.proofs.SizeLemmas.{block_put}
use Rattle.rc_gen.proofs.blocks.add_block.Goals as goal

pub returns-clause-ok : goal.returns-clause-ok
returns-clause-ok c =
    (block_put c.args.blocks.now c.insert.new.self c.new-id.result c.args.number c.args.rows c.args.terminal
    c.new-id.ensures c.requires c.in_ok-insert.ensures.entries).0

pub returns-clause-after : goal.returns-clause-after
returns-clause-after c =
    (block_put c.args.blocks.now c.insert.new.self c.new-id.result c.args.number c.args.rows c.args.terminal
    c.new-id.ensures c.requires c.in_ok-insert.ensures.entries).1
