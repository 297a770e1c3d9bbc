use Rattle.std.proofs.Common.{◌<◌, ◌≤◌, arith, length}
use Rattle.rc_escape.proofs.UsersLemmas.{users_before_all, users_before_next}
use Rattle.rc_escape.proofs.row_users.row_users.Goals as goal

pub loop-row-preserved : goal.loop-row-preserved
loop-row-preserved c =
    let lt : c.loop-row.row < length c.args.rows.now.operands =
    omega (arith, c.loop-row-test.true, c.len-row-end.ensures) in
    users_before_next c.args.rows.now c.loop-row.row c.loop-row.users c.put_row.new.users lt c.in_ok-put_row.ensures
    c.loop-row.invariant

pub returns : goal.returns
returns c =
    let le : length c.args.rows.now.operands ≤ c.loop-row.row =
    omega (arith, c.loop-row-test.false, c.len-row-end.ensures) in
    users_before_all c.args.rows.now c.loop-row.row c.loop-row.users le c.loop-row.invariant
