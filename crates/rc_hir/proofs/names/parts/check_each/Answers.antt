use Rattle.std.proofs.lemmas.Result.{err_from_is_err_and}
use Rattle.rc_hir.proofs.NamesLemmas.{judges_next_part, judges_no_part, judges_stop_part}
use Rattle.rc_hir.proofs.names.parts.check_each.Goals as goal

-- the fault of a part is a fault of the parts that are left
pub returns-in_err-check : goal.returns-in_err-check
returns-in_err-check g c =
    let p = err_from_is_err_and c.from_residual.result c.from_residual.ensures.1 in
    rw (p.1, p.2) (c.loop-part.invariant _ (judges_stop_part c.args.tables g.T.HoldsNames.names _ _ _
    c.loop-part-test.true c.part-item.is _ c.in_err-check.ensures))

pub loop-part-preserved : goal.loop-part-preserved
loop-part-preserved g c answer left =
    c.loop-part.invariant answer (judges_next_part c.args.tables g.T.HoldsNames.names _ _ _ c.loop-part-test.true
    c.part-item.is _ answer c.in_ok-check.ensures left)

pub returns : goal.returns
returns g c = c.loop-part.invariant _ (judges_no_part c.args.tables g.T.HoldsNames.names _ _ tt c.loop-part-test.false)
