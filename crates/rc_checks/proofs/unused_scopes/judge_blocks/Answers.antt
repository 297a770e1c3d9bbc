use Rattle.rc_checks.proofs.UnusedScopes.StepsLemmas.{left_first_outside, left_without_unused}
use Rattle.rc_checks.proofs.unused_scopes.judge_blocks.Goals as goal

-- the environment that the pass looks into is the caller's
pub returns-clause-loses : goal.returns-clause-loses
returns-clause-loses c =
    let call = c.transform_reactive_function in
    left_without_unused (λ it. it.pass.env.now) _ _ _ _ c.requires c.args.func.now.body call.new.func.body call.result
    call.ensures.walk

pub returns-clause-refused : goal.returns-clause-refused
returns-clause-refused c =
    let call = c.transform_reactive_function in
    left_first_outside (λ it. it.pass.env.now) _ _ _ _ c.requires c.args.func.now.body call.new.func.body call.result
    call.ensures.walk
