-- The walk gives what the rules give, and they refuse nothing.
use Rattle.std.proofs.Common.{refl}
use Rattle.std.proofs.lemmas.Result.{err_from_is_err_and}
use Rattle.rc_escape.proofs.NotEscaping.StepsLemmas.{only_memory, rebuilt_here}
use Rattle.rc_escape.proofs.not_escaping.rebuild.Goals as goal

pub returns-clause-ok : goal.returns-clause-ok
returns-clause-ok c =
    let call = c.transform_reactive_function in (
      record {
        left = call.new.state;
        rebuilt = rebuilt_here (λ it. it.env.now) (λ it. it.set.now) _ _ _ _ c.args.func.now.body call.new.func.body
            c.new-met.ensures _ c.in_ok-transform_reactive_function.ensures.walk;
      },
      refl,
    )

pub returns-in_err-transform_reactive_function-clause-refused :
    goal.returns-in_err-transform_reactive_function-clause-refused
returns-in_err-transform_reactive_function-clause-refused c =
    let call = c.transform_reactive_function in
    let p = err_from_is_err_and c.from_residual.result c.from_residual.ensures.1 in
    rw (p.1, p.2) (only_memory (λ it. it.env.now) (λ it. it.set.now) _ _ (call.new.transform, call.new.state) _
    c.args.func.now.body call.new.func.body c.new-met.ensures _ c.in_err-transform_reactive_function.ensures.walk)
