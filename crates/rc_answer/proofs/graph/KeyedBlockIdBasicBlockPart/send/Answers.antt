use Rattle.std.proofs.Common.{◌≤◌, ◌<◌, length, arith, refl}
use Rattle.std.proofs.lemmas.Result.{on_ok_weaker}
use Rattle.rc_show.proofs.ShownLists.{all_again, all_sent, none_sent}
use Rattle.rc_answer.proofs.GraphSent.{next_sent_at}
use Rattle.rc_answer.proofs.graph.KeyedBlockIdBasicBlockPart.send.Goals as goal

pub loop-i-init : goal.loop-i-init
loop-i-init g c = none_sent _ _ _

pub loop-i-preserved : goal.loop-i-preserved
loop-i-preserved g c =
    let here : c.loop-i.i < length c.args.self.now = omega arith in
    next_sent_at _ _ _ _ _ here c.loop-i.invariant c.in_ok-send_block_at.ensures.sends
    c.in_ok-send_block_at.ensures.again

pub returns-clause-sends : goal.returns-clause-sends
returns-clause-sends g c =
    let behind : length c.args.self.now ≤ c.loop-i.i = omega arith in
    on_ok_weaker c.end_seq.result
    (all_sent _ _ _ _ _ _ _ _ _ refl behind c.in_ok-begin_seq.ensures c.loop-i.invariant)
    c.end_seq.ensures

pub returns-clause-again : goal.returns-clause-again
returns-clause-again g c =
    let behind : length c.args.self.now ≤ c.loop-i.i = omega arith in
    on_ok_weaker c.end_seq.result (λ ended. all_again _ _ _ _ _ _ _ refl behind c.loop-i.invariant) c.end_seq.ensures
