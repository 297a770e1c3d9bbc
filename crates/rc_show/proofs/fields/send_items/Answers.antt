use Rattle.std.proofs.Common.{refl}
use Rattle.std.proofs.lemmas.Result.{on_ok_weaker}
use Rattle.rc_show.proofs.ShownLists.{all_again, all_sent, next_sent, none_sent}
use Rattle.rc_show.proofs.fields.send_items.Goals as goal

pub loop-item-init : goal.loop-item-init
loop-item-init g c = none_sent _ _ _

pub loop-item-preserved : goal.loop-item-preserved
loop-item-preserved g c =
    next_sent _ _ _ _ _ _ _ _ c.loop-item-test.true c.item-item.is c.loop-item.invariant
    c.in_ok-send.ensures.sends c.in_ok-send.ensures.again

pub returns-clause-sends : goal.returns-clause-sends
returns-clause-sends g c =
    on_ok_weaker c.end_seq.result
    (all_sent _ _ _ _ _ _ _ _ _ refl c.loop-item-test.false c.in_ok-begin_seq.ensures
    c.loop-item.invariant)
    c.end_seq.ensures

pub returns-clause-again : goal.returns-clause-again
returns-clause-again g c =
    on_ok_weaker c.end_seq.result
    (λ ended. all_again _ _ _ _ _ _ _ refl c.loop-item-test.false c.loop-item.invariant)
    c.end_seq.ensures
