-- What was told was asked for.
use Rattle.std.proofs.Common.{refl}
use Rattle.std.proofs.lemmas.Result.{IfOk-weaker}
use Rattle.rc_pipe.proofs.pipeline.explain_within.Goals as goal

pub returns-clause-ok : goal.returns-clause-ok
returns-clause-ok c = IfOk-weaker c.answer.result _ _ (λ it is. is.answer) c.answer.ensures.ok

pub returns-clause-told : goal.returns-clause-told
returns-clause-told c = IfOk-weaker c.answer.result _ _
    (λ it is. record { answer = is.answer; told = is.explained refl }) c.answer.ensures.ok
