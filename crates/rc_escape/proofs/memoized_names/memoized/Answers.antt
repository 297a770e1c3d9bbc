use Rattle.std.proofs.Common.{◌∙◌, sym}
use Rattle.std.proofs.lemmas.Result.{err_from_is_err_and}
use Rattle.rc_escape.proofs.MemoSetLemmas.{in_greatest, least_in}
use Rattle.rc_escape.proofs.OneRowWalks.{fault_behind, memo_set_behind, missing_behind}
use Rattle.rc_escape.proofs.memoized_names.memoized.Goals as goal

pub returns-clause-ok : goal.returns-clause-ok
returns-clause-ok c =
    memo_set_behind c.args.rec.now c.in_ok-rows.rows c.in_ok-rows.ensures c.in_ok-set.set c.in_ok-set.ensures.ok

pub returns-clause-recorded : goal.returns-clause-recorded
returns-clause-recorded c =
    sym (missing_behind c.args.rec.now c.in_ok-rows.rows c.in_ok-rows.ensures) ∙ c.in_ok-set.ensures.recorded

pub returns-clause-least : goal.returns-clause-least
returns-clause-least c =
    least_in c.args.rec.now c.in_ok-set.set
    (memo_set_behind c.args.rec.now c.in_ok-rows.rows c.in_ok-rows.ensures c.in_ok-set.set c.in_ok-set.ensures.ok)

pub returns-clause-most : goal.returns-clause-most
returns-clause-most c =
    in_greatest c.args.rec.now c.in_ok-set.set
    (memo_set_behind c.args.rec.now c.in_ok-rows.rows c.in_ok-rows.ensures c.in_ok-set.set c.in_ok-set.ensures.ok)

pub returns-in_err-set-clause-no_scope_node : goal.returns-in_err-set-clause-no_scope_node
returns-in_err-set-clause-no_scope_node c =
    let p = err_from_is_err_and c.from_residual-in_err-set.result c.from_residual-in_err-set.ensures.1 in
    rw (p.1, p.2)
    (fault_behind c.args.rec.now c.in_ok-rows.rows c.in_ok-rows.ensures _ c.in_err-set.ensures.no_scope_node)
