use Rattle.std.proofs.Common.{subst, sym}
use Rattle.std.specs.Prelude.{nat_eq, slice_set}
use Rattle.rc_escape.specs.inside.RowUsers.{AddsUsers}
use Rattle.rc_escape.proofs.UsersLemmas.{adds_past, adds_user}
use Rattle.rc_escape.proofs.row_users.put_user.Goals as goal

pub returns-in_ok-push : goal.returns-in_ok-push
returns-in_ok-push c =
    let users = c.args.users.now in
    let place = c.args.place in
    subst (λ w. AddsUsers users (slice_set users place w) c.args.row (λ other. nat_eq place other))
    (sym c.in_ok-push.ensures.ok)
    (adds_user users place c.args.row c.in-Some.rows.now (sym c.in-Some.ensures.value))

pub returns-in_default : goal.returns-in_default
returns-in_default c =
    adds_past c.args.users.now c.args.place c.args.row (sym c.in_default.ensures.value)
