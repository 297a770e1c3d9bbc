-- The outcome of a text that was written, or of what stopped it.
use Rattle.std.proofs.lemmas.Result.{err_from_is_err_and}
use Rattle.rc_program.proofs.AnswerLemmas.{outcome_of_no_text, outcome_of_written}
use Rattle.rc_program.proofs.top.run.Goals as goal

pub returns-in-Ok-clause-outcome : goal.returns-in-Ok-clause-outcome
returns-in-Ok-clause-outcome g c =
    outcome_of_written c.args.words.now c.in-Some.command _ _ _ _ c.in_ok-given.given c.in_ok-answer.answer.text
    c.in_ok-answer.answer.status c.in-Some.ensures c.in_ok-given.ensures.outcome c.in_ok-answer.ensures
    c.in-Ok.ensures.ok

pub returns-in_err-answer-clause-outcome : goal.returns-in_err-answer-clause-outcome
returns-in_err-answer-clause-outcome g c =
    let exit = c.from_residual-in_err-answer in
    let p = err_from_is_err_and exit.result exit.ensures.1 in
    rw (p.1, p.2) (outcome_of_no_text c.args.words.now c.in-Some.command _ _ _ c.in_ok-given.given
    c.in_err-answer.field-0.0 c.in-Some.ensures c.in_ok-given.ensures.outcome c.in_err-answer.ensures)
