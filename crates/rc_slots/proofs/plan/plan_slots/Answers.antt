-- Where every number is in its table, no scope block has a bad name.
use Rattle.std.proofs.Common.{◌≡◌, ◌∙◌, Err, Some, ap, subst}
use Rattle.std.proofs.lemmas.Result.{err_from_is_err_and}
use Rattle.rc_names.specs.Numbers.{to_id}
use Rattle.rc_slots.proofs.KnownScopes.{no_bad_name}
use Rattle.rc_slots.specs.Slots.{first_outside}
use Rattle.rc_slots.specs.declared.plan.SlotFault.TheVariants.{BadName}
use Rattle.rc_slots.proofs.plan.plan_slots.Goals as goal

pub returns-in_err-lengths-clause-sound : goal.returns-in_err-lengths-clause-sound
returns-in_err-lengths-clause-sound c =
    let exit = c.from_residual-in_err-lengths in
    let p = err_from_is_err_and exit.result exit.ensures.1 in
    let listed = c.as_slice.ensures ∙ c.in_ok-scopes.ensures.scopes in
    rw (p.1, p.2) (λ known index bad.
    let same : c.in_err-lengths.field-0.0 ≡ BadName index = cc in
    no_bad_name index known (subst (λ scopes. first_outside c.args.env.now scopes ≡ Some (to_id index)) listed
    (c.in_err-lengths.ensures.bad_name index (ap Err same))))
