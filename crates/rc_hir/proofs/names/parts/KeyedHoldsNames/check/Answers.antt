use Rattle.std.proofs.Common.{◌≤◌, ◌<◌, length, arith}
use Rattle.std.proofs.lemmas.Result.{err_from_is_err_and}
use Rattle.rc_hir.specs.PartNames.{under_key}
use Rattle.rc_hir.proofs.NamesLemmas.{judges_next_at, judges_no_part, judges_stop_at}
use Rattle.rc_hir.proofs.names.parts.KeyedHoldsNames.check.Goals as goal

-- the fault of a value is a fault of the values that are left
pub returns-in_err-check_at : goal.returns-in_err-check_at
returns-in_err-check_at g c =
    let p = err_from_is_err_and c.from_residual.result c.from_residual.ensures.1 in
    let here : c.loop-i.i < length c.args.self.now = omega arith in
    rw (p.1, p.2) (c.loop-i.invariant _ (judges_stop_at c.args.tables (under_key g.V.HoldsNames.names) _ _ here _
    c.in_err-check_at.ensures))

pub loop-i-preserved : goal.loop-i-preserved
loop-i-preserved g c answer left =
    let here : c.loop-i.i < length c.args.self.now = omega arith in
    c.loop-i.invariant answer (judges_next_at c.args.tables (under_key g.V.HoldsNames.names) _ _ here _ answer
    c.in_ok-check_at.ensures left)

pub returns : goal.returns
returns g c =
    let behind : length c.args.self.now ≤ c.loop-i.i = omega arith in
    c.loop-i.invariant _ (judges_no_part c.args.tables (under_key g.V.HoldsNames.names) _ _ tt behind)
