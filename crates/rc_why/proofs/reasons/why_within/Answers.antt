use Rattle.std.proofs.Common.{◌∙◌, Err, ap, inr, refl, subst, sym}
use Rattle.std.proofs.lemmas.Result.{err_from_is_err_and}
use Rattle.rc_pipe.specs.Explained.{IsExplained}
use Rattle.rc_pipe.specs.Headline.{HasAnswer, IsAccepted, IsCause}
use Rattle.rc_pipe.specs.declared.pipeline.Explained.{Explained}
use Rattle.rc_why.proofs.ReasonLemmas.{only_memory}
use Rattle.rc_why.proofs.ReasonsHold.{all_there, reasons_fit, reasons_hold}
use Rattle.rc_why.specs.inside.ToldFacts.{AreThere}
use Rattle.rc_why.proofs.reasons.why_within.Goals as goal

-- the copy has the fault that the environment has
pub returns-in_err-explained-clause-refused : goal.returns-in_err-explained-clause-refused
returns-in_err-explained-clause-refused c =
    let p = err_from_is_err_and c.from_residual-in_err-explained.result c.from_residual-in_err-explained.ensures.1 in
    rw (p.1, p.2) (subst (λ env. IsCause c.args.hir.now env c.in_err-explained.field-0.0) c.in_ok-own.ensures
    c.in_err-explained.ensures.refused)

pub returns-in_err-explained-clause-complete : goal.returns-in_err-explained-clause-complete
returns-in_err-explained-clause-complete c =
    let p = err_from_is_err_and c.from_residual-in_err-explained.result c.from_residual-in_err-explained.ensures.1 in
    let fault = c.in_err-explained.field-0.0 in
    rw (p.1, p.2) (λ func accepted answer. inr (ap Err (only_memory {A = Explained} (Err fault) fault refl
    (c.in_err-explained.ensures.complete func
    (subst (λ env. IsAccepted c.args.hir.now env) (sym c.in_ok-own.ensures) accepted)
    (subst (λ env. HasAnswer c.args.hir.now env func) (sym c.in_ok-own.ensures) answer)))))

-- what is told of the copy is told of the environment
pub reasons_of-requires : goal.reasons_of-requires
reasons_of-requires c =
    subst (AreThere c.in_ok-explained.explained.told) (sym c.as_slice.ensures)
    (all_there c.args.hir.now c.args.env.now c.explain_within.new.env c.in_ok-explained.explained
    (subst (λ env. IsExplained c.args.hir.now env c.explain_within.new.env c.in_ok-explained.explained)
    c.in_ok-own.ensures c.in_ok-explained.ensures.told))

pub returns-in_err-reasons-clause-refused : goal.returns-in_err-reasons-clause-refused
returns-in_err-reasons-clause-refused c =
    let p = err_from_is_err_and c.from_residual-in_err-reasons.result c.from_residual-in_err-reasons.ensures.1 in
    rw (p.1, p.2) tt

pub returns-in_err-reasons-clause-complete : goal.returns-in_err-reasons-clause-complete
returns-in_err-reasons-clause-complete c =
    let p = err_from_is_err_and c.from_residual-in_err-reasons.result c.from_residual-in_err-reasons.ensures.1 in
    rw (p.1, p.2) (λ func accepted answer. inr refl)

pub returns-clause-ok : goal.returns-clause-ok
returns-clause-ok c =
    reasons_hold c.args.hir.now c.args.env.now c.explain_within.new.env c.in_ok-explained.explained
    (subst (λ env. IsExplained c.args.hir.now env c.explain_within.new.env c.in_ok-explained.explained)
    c.in_ok-own.ensures c.in_ok-explained.ensures.told)
    c.in_ok-reasons.reasons (c.in_ok-reasons.ensures.fates ∙ c.as_slice.ensures) c.in_ok-reasons.ensures.facts

pub returns-clause-fits : goal.returns-clause-fits
returns-clause-fits c =
    reasons_fit c.args.hir.now c.args.env.now c.explain_within.new.env c.in_ok-explained.explained
    (subst (λ env. IsExplained c.args.hir.now env c.explain_within.new.env c.in_ok-explained.explained)
    c.in_ok-own.ensures c.in_ok-explained.ensures.told)
    c.in_ok-reasons.reasons (c.in_ok-reasons.ensures.fates ∙ c.as_slice.ensures) c.in_ok-reasons.ensures.facts
