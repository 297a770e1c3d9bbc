use Rattle.rc_early.proofs.GrowsLemmas.{same_scopes}
use Rattle.rc_early.proofs.entries.set_early_return.Goals as goal

pub returns-in_err-push-clause-err : goal.returns-in_err-push-clause-err
returns-in_err-push-clause-err c = same_scopes c.from_residual.result c.args.env.now c.args.early.now.scope.0
    c.in-Some.scope.now c.push.new.self c.in-Some.ensures.value c.in_err-push.ensures.err
