use Rattle.std.proofs.Common.{subst}
use Rattle.std.proofs.lemmas.Result.{on_ok_weaker}
use Rattle.serde_json.specs.Data.{string}
use Rattle.rc_show.specs.Sending.{Sends}
use Rattle.rc_show.proofs.SendingLemmas.{array_sent, first_item_sent, flag_sent, text_sent}
use Rattle.rc_show.proofs.place.send_long_form.Goals as goal

pub returns-clause-sends : goal.returns-clause-sends
returns-clause-sends g c =
    let before = g.S.Serializer.written c.send.new.out in
    let after = g.S.Serializer.written c.str.new.self in
    let effect = subst (λ name. Sends (string name) before after) c.effect_name.ensures
    (text_sent _ before after c.in_ok-str.ensures) in
    let reactive = flag_sent _ _ _ c.in_ok-bool.ensures in
    on_ok_weaker c.end_seq.result
    (array_sent _ _ _ _ _ c.in_ok-begin_seq.ensures
    (first_item_sent _ _ _ _ _ c.in_ok-send.ensures.sends
    (first_item_sent _ _ _ _ _ effect (first_item_sent _ _ _ _ _ reactive c.in_ok-send_span.ensures.sends))))
    c.end_seq.ensures
