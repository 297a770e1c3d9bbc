use Rattle.std.proofs.Common.{◌<◌, arith, length}
use Rattle.rc_escape.proofs.OneRowLemmas.{copied_next}
use Rattle.rc_escape.proofs.one_row_each.copied_scopes.Goals as goal

pub loop-place-preserved : goal.loop-place-preserved
loop-place-preserved c =
    let lt : c.loop-place.place < length c.args.scopes.now =
    omega (arith, c.loop-place-test.true, c.len-place-end.ensures.value) in
    copied_next c.args.scopes.now c.loop-place.copy c.put_scope.new.copy c.loop-place.place
    c.len-place-end.ensures.distinct lt c.in_ok-put_scope.ensures c.loop-place.invariant
