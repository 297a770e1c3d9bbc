use Rattle.std.proofs.Common.{subst, sym}
use Rattle.std.proofs.lemmas.Result.{err_from_is_err_and}
use Rattle.rc_build.specs.RuleFacts.{FaultFact}
use Rattle.rc_build.proofs.ValueRowsLemmas.{lacks_row}
use Rattle.rc_build.proofs.value_rows.row_with_id.Goals as goal

pub returns-in_err-row-clause-facts : goal.returns-in_err-row-clause-facts
returns-in_err-row-clause-facts c =
    let p = err_from_is_err_and c.from_residual.result c.from_residual.ensures.1 in
    rw (p.1, p.2) (subst (FaultFact c.args.hir.now) (sym c.in_err-row.ensures.err.0)
    (lacks_row c.args.hir.now c.args.key c.args.number c.requires c.in_err-row.ensures.err.1))
