use Rattle.std.proofs.Common.{subst, sym}
use Rattle.std.proofs.lemmas.Result.{IfOk-weaker}
use Rattle.rc_order.proofs.OrderLemmas.{listed_in_order}
use Rattle.rc_order.specs.Order.{AreInOrder}
use Rattle.rc_order.proofs.order.in_order.Goals as goal

pub returns : goal.returns
returns c =
    let names = c.args.names.now in
    let made = listed_in_order names c.in_ok-numbers.numbers c.in_ok-numbers.ensures in
    IfOk-weaker c.with_numbers.result _ _ (λ listed is. subst (AreInOrder names) (sym is) made) c.with_numbers.ensures
