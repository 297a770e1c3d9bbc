-- Reasons give the text of the command, and a graph that is refused gives the line of its fault.
use Rattle.std.proofs.Common.{refl, Err}
use Rattle.std.proofs.lemmas.Result.{MatchResult-weaker}
use Rattle.rc_program.proofs.AnswerLemmas.{text_of_reasons}
use Rattle.rc_program.proofs.RefusalLemmas.{text_of_refusal}
use Rattle.rc_program.specs.declared.command.Command.TheVariants.{Why}
use Rattle.rc_program.proofs.answer.why_answer.Goals as goal

pub returns-in-Ok : goal.returns-in-Ok
returns-in-Ok c =
    MatchResult-weaker c.reasons_answer.result c.reasons_answer.ensures
    (λ answer it. text_of_reasons c.args.given.now c.in-Ok.reasons answer.status answer.text c.in-Ok.ensures.ok it.0 it.1)
    (λ stop same. same)

pub returns-in-Err : goal.returns-in-Err
returns-in-Err c =
    MatchResult-weaker c.refusal.result c.refusal.ensures
    (λ answer it. text_of_refusal Why c.args.given.now (Err c.in-Err.fault) c.in-Err.fault answer.status answer.text refl
    c.in-Err.ensures.refused c.in-Err.ensures.complete it.0 it.1 it.2)
    (λ stop same. same)
