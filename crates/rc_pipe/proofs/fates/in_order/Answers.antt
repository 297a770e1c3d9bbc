use Rattle.std.proofs.lemmas.Result.{IfOk-weaker}
use Rattle.rc_pipe.proofs.FatesLemmas.{set_rises, set_has}
use Rattle.rc_pipe.proofs.fates.in_order.Goals as goal

pub returns-clause-rising : goal.returns-clause-rising
returns-clause-rising c = IfOk-weaker c.collected.result _ _ (set_rises c.args.scopes.now) c.collected.ensures

pub returns-clause-same : goal.returns-clause-same
returns-clause-same c = IfOk-weaker c.collected.result _ _ (set_has c.args.scopes.now) c.collected.ensures
