use Rattle.std.proofs.Common.{Err, Ok}
use Rattle.std.proofs.lemmas.Result.{err_from_is_err_and}
use Rattle.rc_merge.proofs.MergeLemmas.{walk_rebuilds, walk_refused}
use Rattle.rc_merge.specs.inside.LastUsesMet.{uses_of}
use Rattle.rc_merge.proofs.merge.merge_body.Goals as goal

-- the environment and the last uses that the pass looks into are the caller's
pub returns-clause-rebuilt : goal.returns-clause-rebuilt
returns-clause-rebuilt c =
    let left = c.transform_reactive_function.new in
    walk_rebuilds (λ it. it.pass.known.env.now) (λ it. uses_of it.pass.known.uses.now) _ _ (left.transform, left.state) _
    c.args.scopes c.args.merged c.new-merging.ensures c.args.func.now.body left.func.body (Ok tt)
    c.in_ok-transform_reactive_function.ensures.walk

pub returns-in_err-transform_reactive_function-clause-refused :
    goal.returns-in_err-transform_reactive_function-clause-refused
returns-in_err-transform_reactive_function-clause-refused c =
    let raised = c.from_residual in
    let p = err_from_is_err_and raised.result raised.ensures.1 in
    let left = c.transform_reactive_function.new in
    rw (p.1, p.2) (walk_refused (λ it. it.pass.known.env.now) (λ it. uses_of it.pass.known.uses.now) _ _
    (left.transform, left.state) _ c.args.scopes c.args.merged c.new-merging.ensures c.args.func.now.body left.func.body
    (Err c.in_err-transform_reactive_function.field-0.0) c.in_err-transform_reactive_function.ensures.walk)
