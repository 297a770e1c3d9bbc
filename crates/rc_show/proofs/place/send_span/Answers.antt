use Rattle.std.proofs.lemmas.Result.{on_ok_weaker}
use Rattle.rc_show.proofs.SendingLemmas.{first_item_sent, no_items_sent}
use Rattle.rc_show.proofs.place.send_span.Goals as goal

pub returns-in-Some-clause-sends : goal.returns-in-Some-clause-sends
returns-in-Some-clause-sends g c = rw c.in-Some.is
    (on_ok_weaker c.send.result (λ sent. first_item_sent _ _ _ _ _ sent (no_items_sent _)) c.send.ensures.sends)

pub returns-in-None-clause-sends : goal.returns-in-None-clause-sends
returns-in-None-clause-sends g c = rw c.in-None.is (no_items_sent _)
