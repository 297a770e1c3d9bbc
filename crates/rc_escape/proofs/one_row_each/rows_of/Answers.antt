use Rattle.std.proofs.Common.{◌<◌, arith, length}
use Rattle.rc_escape.proofs.OneRowLemmas.{one_row_next}
use Rattle.rc_escape.proofs.one_row_each.rows_of.Goals as goal

pub loop-place-preserved : goal.loop-place-preserved
loop-place-preserved c =
    let lt : c.loop-place.place < length c.args.rec.now.nodes =
    omega (arith, c.loop-place-test.true, c.len-place-end.ensures.value) in
    one_row_next c.args.rec.now c.loop-place.place c.loop-place.rows c.put_node_at.new.rows
    c.len-place-end.ensures.distinct lt c.in_ok-put_node_at.ensures c.loop-place.invariant
