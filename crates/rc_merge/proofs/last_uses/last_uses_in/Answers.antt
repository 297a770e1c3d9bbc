use Rattle.std.proofs.Common.{◌∙◌, Err, ap}
use Rattle.std.proofs.lemmas.Result.{err_from_is_err_and}
use Rattle.rc_merge.proofs.UseWalk.{fault_named, fault_sound, finds}
use Rattle.rc_merge.specs.inside.LastUsesMet.{uses_of, with_contexts}
use Rattle.rc_merge.specs.inside.MetUses.{with_all}
use Rattle.rc_merge.proofs.last_uses.last_uses_in.Goals as goal

pub returns-in_err-visit_reactive_function-clause-named : goal.returns-in_err-visit_reactive_function-clause-named
returns-in_err-visit_reactive_function-clause-named c =
    let p = err_from_is_err_and c.from_residual.result c.from_residual.ensures.1 in
    fault_named c.args.env.now c.args.func.now _ c.from_residual.result
    c.in_err-visit_reactive_function.field-0.0 (p.1 ∙ ap (λ f. Err f) p.2) c.in_err-visit_reactive_function.ensures

pub returns-in_err-visit_reactive_function-clause-sound : goal.returns-in_err-visit_reactive_function-clause-sound
returns-in_err-visit_reactive_function-clause-sound c = λ known. fault_sound c.args.env.now c.args.func.now
    c.from_residual.result known (returns-in_err-visit_reactive_function-clause-named c)

pub returns-clause-uses : goal.returns-clause-uses
returns-clause-uses c =
    let env = c.args.env.now in
    c.in_ok-into_uses.ensures
    ∙ finds env c.args.func.now.body _ (with_all env c.visit_reactive_function.new.state)
    (λ i. with_contexts env (c.new-2.ensures i) (uses_of (c.new.ensures i)))
    c.in_ok-visit_reactive_function.ensures
