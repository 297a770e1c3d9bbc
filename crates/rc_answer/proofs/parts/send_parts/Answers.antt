use Rattle.std.proofs.Common.{refl}
use Rattle.std.proofs.lemmas.Result.{on_ok_weaker}
use Rattle.rc_show.proofs.ShownLists.{all_again, all_sent, next_sent, none_sent}
use Rattle.rc_answer.proofs.parts.send_parts.Goals as goal

pub loop-part-init : goal.loop-part-init
loop-part-init g c = none_sent _ _ _

pub loop-part-preserved : goal.loop-part-preserved
loop-part-preserved g c =
    next_sent _ _ _ _ _ _ _ _ c.loop-part-test.true c.part-item.is c.loop-part.invariant
    c.in_ok-send.ensures.sends c.in_ok-send.ensures.again

pub returns-clause-sends : goal.returns-clause-sends
returns-clause-sends g c =
    on_ok_weaker c.end_seq.result
    (all_sent _ _ _ _ _ _ _ _ _ refl c.loop-part-test.false c.in_ok-begin_seq.ensures
    c.loop-part.invariant)
    c.end_seq.ensures

pub returns-clause-again : goal.returns-clause-again
returns-clause-again g c =
    on_ok_weaker c.end_seq.result
    (λ ended. all_again _ _ _ _ _ _ _ refl c.loop-part-test.false c.loop-part.invariant)
    c.end_seq.ensures
