-- What stops the parsing stops the reading of a document of each form.
use Rattle.std.proofs.Common.{◌∙◌, subst}
use Rattle.std.proofs.lemmas.Result.{err_from_is_err_and}
use Rattle.rc_program.specs.inside.Stop.{IsStopFor}
use Rattle.rc_program.proofs.load.document.Goals as goal

pub returns-in_err-value : goal.returns-in_err-value
returns-in_err-value c =
    let exit = c.from_residual in
    let p = err_from_is_err_and exit.result exit.ensures.1 in
    let same = c.as_slice.ensures.value ∙ c.shrink_to_fit.ensures.items in
    rw (p.1, p.2)
    (subst (λ bytes. IsStopFor c.args.form bytes c.in_err-value.field-0.0) same (c.in_err-value.ensures c.args.form))
