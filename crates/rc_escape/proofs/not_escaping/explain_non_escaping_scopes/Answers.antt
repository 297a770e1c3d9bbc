-- The body is rebuilt for the memoized names, which are put in order; and the faults are those of the record.
use Rattle.std.proofs.Common.{subst}
use Rattle.std.proofs.lemmas.Result.{err_from_is_err_and}
use Rattle.rc_escape.proofs.NotEscaping.Decided.{not_escaping_decided}
use Rattle.rc_escape.proofs.NotEscaping.EscapeFaults.{memory_fault}
use Rattle.rc_escape.proofs.NotEscaping.KeptParts.{erased_kept, still_known}
use Rattle.rc_escape.proofs.NotEscaping.LeftScopes.{decided_not_escaping}
use Rattle.rc_escape.proofs.NotEscaping.NeededOutputs.{needed_left}
use Rattle.rc_escape.specs.NotEscaping.{HasDecidedNotEscaping}
use Rattle.rc_order.specs.Order.{AreInOrder}
use Rattle.rc_tree.proofs.DecidedLemmas.{left_once}
use Rattle.rc_escape.proofs.not_escaping.explain_non_escaping_scopes.Goals as goal

pub returns-clause-memoized : goal.returns-clause-memoized
returns-clause-memoized c =
    let rebuilt = c.in_ok-log.ensures.ok in
    let set = c.in_ok-set.set in
    let names = c.in_ok-memoized.memoized in
    let after = c.rebuild.new.func.body in
    let listed = subst (λ list. AreInOrder list names) c.as_slice.ensures c.in_ok-memoized.ensures in
    subst (λ log. (is : HasDecidedNotEscaping c.args.env.now c.args.func.now after log)
    × AreInOrder is.without.set names) rebuilt.1
    (decided_not_escaping c.args.env.now c.args.func.now set after c.in_ok-set.ensures.ok rebuilt.0, listed)

pub returns-clause-ok : goal.returns-clause-ok
returns-clause-ok c = (returns-clause-memoized c).0

pub returns-clause-needed : goal.returns-clause-needed
returns-clause-needed c = needed_left c.args.env.now c.args.func.now c.rebuild.new.func.body
    (returns-clause-ok c).without

pub returns-clause-kept_erased : goal.returns-clause-kept_erased
returns-clause-kept_erased c =
    let is = (returns-clause-ok c).without in
    erased_kept c.args.env.now is.set c.args.func.now c.rebuild.new.func
    c.rebuild.ensures.header is.rebuilt

pub returns-clause-known : goal.returns-clause-known
returns-clause-known c =
    let is = (returns-clause-ok c).without in
    still_known c.args.env.now is.set c.args.func.now c.rebuild.new.func
    c.rebuild.ensures.header is.rebuilt

pub returns-clause-scopes_once : goal.returns-clause-scopes_once
returns-clause-scopes_once c =
    let body = c.rebuild.new.func.body in
    let log = c.in_ok-log.log in
    left_once c.args.func.now.body body log
    (not_escaping_decided c.args.env.now c.args.func.now body log (returns-clause-ok c)).lost

pub returns-in_err-log-clause-refused : goal.returns-in_err-log-clause-refused
returns-in_err-log-clause-refused c =
    let exit = c.from_residual-in_err-log in
    let p = err_from_is_err_and exit.result exit.ensures.1 in
    rw (p.1, p.2) (memory_fault c.args.env.now c.args.func.now c.in_err-log.field-0.0 c.in_err-log.ensures.refused)

pub returns-in_err-set-clause-refused : goal.returns-in_err-set-clause-refused
returns-in_err-set-clause-refused c =
    let p = err_from_is_err_and c.from_residual.result c.from_residual.ensures.1 in
    rw (p.1, p.2) c.in_err-set.ensures.refused
