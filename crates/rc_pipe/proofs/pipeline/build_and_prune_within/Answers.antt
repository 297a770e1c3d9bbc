-- The pruned function is the answer, and the faults are those of the steps.
use Rattle.std.proofs.Common.{Err, ap, inr}
use Rattle.std.proofs.lemmas.Result.{err_from_is_err_and}
use Rattle.rc_pipe.proofs.CausesLemmas.{only_memory}
use Rattle.rc_pipe.proofs.OneAnswer.{one_answer}
use Rattle.rc_pipe.proofs.pipeline.build_and_prune_within.Goals as goal

pub returns-clause-ok : goal.returns-clause-ok
returns-clause-ok c = c.in_ok-explained.ensures.ok.answer

-- an answer is the only one
pub returns-clause-one_answer : goal.returns-clause-one_answer
returns-clause-one_answer c = λ answered other is.
    one_answer c.args.hir.now c.args.env.now answered c.answer.new.env other c.in_ok-explained.explained.pruned is
    c.in_ok-explained.ensures.ok.answer

pub returns-in_err-explained-clause-refused : goal.returns-in_err-explained-clause-refused
returns-in_err-explained-clause-refused c =
    let p = err_from_is_err_and c.from_residual.result c.from_residual.ensures.1 in
    rw (p.1, p.2) (c.in_err-explained.ensures.refused)

pub returns-in_err-explained-clause-kept_environment : goal.returns-in_err-explained-clause-kept_environment
returns-in_err-explained-clause-kept_environment c =
    let p = err_from_is_err_and c.from_residual.result c.from_residual.ensures.1 in
    rw (p.1, p.2) (c.in_err-explained.ensures.kept_environment)

pub returns-in_err-explained-clause-complete : goal.returns-in_err-explained-clause-complete
returns-in_err-explained-clause-complete c =
    let p = err_from_is_err_and c.from_residual.result c.from_residual.ensures.1 in
    rw (p.1, p.2) (λ func accepted answer.
    inr (ap Err (only_memory c.args.hir.now c.args.env.now accepted func answer c.in_err-explained.field-0.0
    c.in_err-explained.ensures.refused)))
