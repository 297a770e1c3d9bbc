use Rattle.rc_early.proofs.StepsLemmas.{leaves_early_returns, leaves_fault}
use Rattle.rc_early.proofs.replacing.walk.Goals as goal

-- the environment that the pass looks into is the caller's
pub returns-clause-ok : goal.returns-clause-ok
returns-clause-ok c =
    let call = c.transform_reactive_function in
    leaves_early_returns (λ it. it.pass.env.now) _ _ _ _ c.requires c.args.func.now.body call.new.func.body call.result
    call.ensures.walk

pub returns-clause-refused : goal.returns-clause-refused
returns-clause-refused c =
    let call = c.transform_reactive_function in
    leaves_fault (λ it. it.pass.env.now) _ _ _ _ c.requires c.args.func.now.body call.new.func.body call.result
    call.ensures.walk
