use Rattle.std.proofs.Common.{arith, ◌<◌, length}
use Rattle.rc_escape.proofs.MemoSetLemmas.{collected_more}
use Rattle.rc_escape.proofs.memoized_names.memoized_names.Goals as goal

pub loop-place-preserved : goal.loop-place-preserved
loop-place-preserved c =
    let within : c.loop-place.place < length c.args.rows.now.nodes = omega (arith, c.len-place-end.ensures.value) in
    collected_more c.args.rows.now c.args.state.now c.loop-place.place c.loop-place.set c.put_memoized.new.set
    c.len-place-end.ensures.distinct within c.in_ok-put_memoized.ensures
    c.loop-place.invariant
