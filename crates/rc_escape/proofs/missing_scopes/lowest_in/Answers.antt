use Rattle.std.proofs.Common.{arith, ◌<◌, ◌≤◌, length}
use Rattle.rc_escape.proofs.LowestScopeLemmas.{lowest_so_far_next, lowest_so_far_end}
use Rattle.rc_escape.proofs.missing_scopes.lowest_in.Goals as goal

pub loop-place-preserved : goal.loop-place-preserved
loop-place-preserved c =
    let lt : c.loop-place.place < length c.args.scopes.now = omega (arith, c.len-place-end.ensures.value) in
    lowest_so_far_next c.args.rows.now c.args.before c.loop-place.lowest c.lower_at-lowest.result c.args.scopes.now
    c.loop-place.place lt c.lower_at-lowest.ensures c.loop-place.invariant

pub returns : goal.returns
returns c =
    let le : length c.args.scopes.now ≤ c.loop-place.place = omega (arith, c.len-place-end.ensures.value) in
    lowest_so_far_end c.args.rows.now c.args.before c.loop-place.lowest c.args.scopes.now c.loop-place.place le
    c.loop-place.invariant
