use Rattle.std.proofs.Common.{◌∙◌, ap, sym}
use Rattle.std.specs.Prelude.{◌||◌, nat_eq}
use Rattle.std.specs.List.{list_any}
use Rattle.rc_escape.specs.inside.WalkPlaces.{is_set}
use Rattle.rc_escape.proofs.UsersLemmas.{no_user, user_in}
use Rattle.rc_escape.proofs.walk_state.WalkState.memoize.Goals as goal

pub returns-in-Some-clause-answered : goal.returns-in-Some-clause-answered
returns-in-Some-clause-answered c = λ row lt.
    let state = c.args.self.now in
    c.set_all.ensures.values row lt
    ∙ ap (λ w. w || is_set state.answered row) (ap (list_any (nat_eq row)) c.as_slice.ensures
    ∙ sym (user_in state.users c.args.place row c.in-Some.users.now (sym c.in-Some.ensures)))

pub returns-in_default-clause-answered : goal.returns-in_default-clause-answered
returns-in_default-clause-answered c = λ row lt.
    let state = c.args.self.now in
    sym (ap (λ w. w || is_set state.answered row) (no_user state.users c.args.place row (sym c.in_default.ensures)))
