use Rattle.std.proofs.Common.{◌∙◌, ap, Err}
use Rattle.std.proofs.lemmas.Result.{err_from_is_err_and}
use Rattle.rc_flow.proofs.ReactiveDependencies.StayLemmas.{refused, refused_sound, set_collected, set_named}
use Rattle.rc_flow.proofs.collected.collect_reactive_identifiers.Goals as goal
use Rattle.rc_flow.specs.inside.Spread.{spread_over}

pub returns-in_err-spread-clause-named : goal.returns-in_err-spread-clause-named
returns-in_err-spread-clause-named c =
    let env = c.args.env.now in
    let func = c.args.func.now in
    let p = err_from_is_err_and c.from_residual.result c.from_residual.ensures.1 in
    refused env func (spread_over func.body env) (set_named env func) c.from_residual.result
    c.in_err-spread.field-0.0 (p.1 ∙ ap (λ f. Err f) p.2) c.in_err-spread.ensures

pub returns-in_err-spread-clause-sound : goal.returns-in_err-spread-clause-sound
returns-in_err-spread-clause-sound c = λ known.
    refused_sound c.args.env.now c.args.func.now c.from_residual.result known (returns-in_err-spread-clause-named c)

pub returns-clause-ok : goal.returns-clause-ok
returns-clause-ok c =
    set_collected c.args.env.now c.args.func.now.body c.in_ok-spread.spread c.in_ok-spread.ensures
