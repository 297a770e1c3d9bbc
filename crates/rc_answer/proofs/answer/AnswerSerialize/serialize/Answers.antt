use Rattle.std.proofs.lemmas.Result.{on_ok_weaker}
use Rattle.rc_answer.proofs.AnswerLemmas.{answer_sent}
use Rattle.rc_answer.proofs.answer.AnswerSerialize.serialize.Goals as goal

pub returns : goal.returns
returns g c =
    on_ok_weaker c.end_map.result
    (λ ended. answer_sent _ _ _ _ _ _ _ _ _ c.in_ok-begin_map.ensures
    (rw (c.with.ensures, c.new.ensures, c.with_part.ensures) at c.in_ok-send_fields.ensures.sends)
    c.in_ok-key.ensures c.in_ok-send_function.ensures ended
    (rw (c.with.ensures, c.with_part.ensures) at c.in_ok-send_fields.ensures.again).0.1)
    c.end_map.ensures
