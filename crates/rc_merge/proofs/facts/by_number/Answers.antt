use Rattle.std.proofs.lemmas.Result.{IfOk-weaker}
use Rattle.rc_merge.proofs.ByNumberLemmas.{only_by_number}
use Rattle.rc_merge.proofs.facts.by_number.Goals as goal

pub returns : goal.returns
returns c =
    IfOk-weaker c.in_order.result _ _ (λ ordered is. only_by_number c.args.names.now ordered is) c.in_order.ensures
