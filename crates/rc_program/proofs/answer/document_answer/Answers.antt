-- Reasons are asked of the document itself, and what they give is the text of the command.
use Rattle.std.proofs.Common.{◌≡◌, subst, sym, true, false}
use Rattle.std.proofs.lemmas.Result.{MatchResult-weaker}
use Rattle.rc_program.proofs.AnswerLemmas.{no_memory}
use Rattle.rc_program.specs.Status.{IsTextFor}
use Rattle.rc_program.proofs.answer.document_answer.Goals as goal

pub returns-then-asks_why : goal.returns-then-asks_why
returns-then-asks_why c =
    MatchResult-weaker c.why_answer.result c.why_answer.ensures
    (λ answer it. subst (λ command. IsTextFor command c.args.given.now answer.status answer.text)
    (sym (c.asks_why.ensures.0 c.if-asks_why.true)) it)
    (λ stop same. no_memory _ stop same)
