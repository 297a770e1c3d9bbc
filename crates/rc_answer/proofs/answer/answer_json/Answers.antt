use Rattle.rc_answer.proofs.AnswerLemmas.{answer_written}
use Rattle.rc_answer.proofs.answer.answer_json.Goals as goal

pub returns-in-Ok : goal.returns-in-Ok
returns-in-Ok c =
    let sent = c.in-Ok.ensures.events in
    answer_written _ _ _ sent.0 _ sent.1 sent.2
