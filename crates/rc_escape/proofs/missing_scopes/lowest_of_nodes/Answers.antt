use Rattle.std.proofs.Common.{arith, ◌<◌, ◌≤◌, length}
use Rattle.rc_escape.proofs.LowestScopeLemmas.{lowest_of_nodes_next, lowest_of_nodes_end}
use Rattle.rc_escape.proofs.missing_scopes.lowest_of_nodes.Goals as goal

pub loop-place-preserved : goal.loop-place-preserved
loop-place-preserved c =
    let lt : c.loop-place.place < length c.args.rows.now.nodes = omega (arith, c.len-place-end.ensures.value) in
    lowest_of_nodes_next c.args.rows.now c.loop-place.lowest c.lowest_at-lowest.result c.loop-place.place lt
    c.lowest_at-lowest.ensures c.loop-place.invariant

pub returns : goal.returns
returns c =
    let le : length c.args.rows.now.nodes ≤ c.loop-place.place = omega (arith, c.len-place-end.ensures.value) in
    lowest_of_nodes_end c.args.rows.now c.loop-place.lowest c.loop-place.place le c.loop-place.invariant
