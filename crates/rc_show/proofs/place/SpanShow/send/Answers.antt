use Rattle.std.proofs.lemmas.Result.{on_ok_weaker}
use Rattle.rc_show.proofs.SendingLemmas.{array_sent, first_item_sent, no_items_sent}
use Rattle.rc_show.proofs.place.SpanShow.send.Goals as goal

pub returns-clause-sends : goal.returns-clause-sends
returns-clause-sends g c =
    let ending = first_item_sent _ _ _ _ _ c.in_ok-send-2.ensures.sends (no_items_sent _) in
    on_ok_weaker c.end_seq.result
    (array_sent _ _ _ _ _ c.in_ok-begin_seq.ensures (first_item_sent _ _ _ _ _ c.in_ok-send.ensures.sends ending))
    c.end_seq.ensures
