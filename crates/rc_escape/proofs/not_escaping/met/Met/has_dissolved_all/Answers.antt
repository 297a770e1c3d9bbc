use Rattle.std.proofs.Common.{arith, ◌<◌, ◌≤◌, length}
use Rattle.rc_escape.proofs.StoresLemmas.{rest_ended, rest_next, rest_stopped}
use Rattle.rc_names.specs.Numbers.{is_among}
use Rattle.rc_escape.proofs.not_escaping.met.Met.has_dissolved_all.Goals as goal

pub loop-place-preserved : goal.loop-place-preserved
loop-place-preserved c =
    let lt : c.loop-place.place < length c.args.scopes.now = omega (arith, c.len-place-end.ensures.value) in
    rest_next (is_among c.args.self.now.dissolved) c.args.scopes.now c.loop-place.place lt c.has_dissolved_at.result
    c.has_dissolved_at.ensures c.if-not-has_dissolved_at.false c.loop-place.invariant

pub returns-then-not-has_dissolved_at : goal.returns-then-not-has_dissolved_at
returns-then-not-has_dissolved_at c =
    let lt : c.loop-place.place < length c.args.scopes.now = omega (arith, c.len-place-end.ensures.value) in
    rest_stopped (is_among c.args.self.now.dissolved) c.args.scopes.now c.loop-place.place lt c.has_dissolved_at.result
    c.has_dissolved_at.ensures c.if-not-has_dissolved_at.true c.loop-place.invariant

pub returns : goal.returns
returns c =
    let le : length c.args.scopes.now ≤ c.loop-place.place = omega (arith, c.len-place-end.ensures.value) in
    rest_ended (is_among c.args.self.now.dissolved) c.args.scopes.now c.loop-place.place le c.loop-place.invariant
