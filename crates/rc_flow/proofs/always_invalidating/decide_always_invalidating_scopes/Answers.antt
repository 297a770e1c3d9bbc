-- The walk starts with the answers turned round.
use Rattle.std.proofs.Common.{Err, Ok}
use Rattle.std.proofs.lemmas.Result.{err_from_is_err_and}
use Rattle.rc_tree.proofs.DistinctLemmas.{at_most_once}
use Rattle.rc_tree.specs.ScopesIn.{scopes_in}
use Rattle.rc_flow.proofs.AlwaysInvalidating.DecidedScopes.{invalidating_decided}
use Rattle.rc_flow.proofs.AlwaysInvalidating.LeftScopes.{leaves_others}
use Rattle.rc_flow.proofs.AlwaysInvalidating.MarksLemmas.{prunes_invalidating}
use Rattle.rc_flow.proofs.AlwaysInvalidating.RulesLemmas.{left_rebuilt, only_memory, rebuilt_keeps_erased}
use Rattle.rc_flow.proofs.AlwaysInvalidating.RulesLemmas.{rebuilt_keeps_names}
use Rattle.rc_tree.proofs.TreeNamesLemmas.{still_known}
use Rattle.rc_flow.proofs.always_invalidating.decide_always_invalidating_scopes.Goals as goal

pub returns-clause-ok : goal.returns-clause-ok
returns-clause-ok c =
    let marks = c.in_ok-marks.marks in
    let before = c.args.func.now.body in
    let after = c.transform_reactive_function.new.func.body in
    prunes_invalidating c.args.env.now before after marks c.in_ok-marks.ensures
    (left_rebuilt _ _ _ marks.dropped before after (Ok tt)
    (rw c.reverse.ensures at c.in_ok-transform_reactive_function.ensures.walk))

pub returns-clause-decided : goal.returns-clause-decided
returns-clause-decided c = λ once.
    invalidating_decided c.args.env.now c.args.func.now.body c.transform_reactive_function.new.func.body
    c.in_ok-marks.marks.decided (returns-clause-ok c) (at_most_once (scopes_in c.args.func.now.body) once)

pub returns-clause-left : goal.returns-clause-left
returns-clause-left c =
    leaves_others c.args.env.now c.args.func.now.body c.transform_reactive_function.new.func.body
    (returns-clause-ok c).without

pub returns-clause-kept_names : goal.returns-clause-kept_names
returns-clause-kept_names c =
    let is = (returns-clause-ok c).without in
    rebuilt_keeps_names is.answers c.args.func.now.body c.transform_reactive_function.new.func.body is.rebuilt

pub returns-clause-kept_erased : goal.returns-clause-kept_erased
returns-clause-kept_erased c =
    let is = (returns-clause-ok c).without in
    rebuilt_keeps_erased is.answers c.args.func.now c.transform_reactive_function.new.func
    c.transform_reactive_function.ensures.header is.rebuilt

pub returns-clause-known : goal.returns-clause-known
returns-clause-known c =
    still_known c.args.env.now c.args.func.now c.transform_reactive_function.new.func
    c.transform_reactive_function.ensures.header (returns-clause-kept_names c)

pub returns-in_err-transform_reactive_function-clause-refused :
    goal.returns-in_err-transform_reactive_function-clause-refused
returns-in_err-transform_reactive_function-clause-refused c =
    let raised = c.from_residual-in_err-transform_reactive_function in
    let p = err_from_is_err_and raised.result raised.ensures.1 in
    let left = c.transform_reactive_function.new in
    rw (p.1, p.2) (only_memory _ _ (left.transform, left.state) c.in_ok-marks.marks.dropped c.args.func.now.body
    left.func.body (Err c.in_err-transform_reactive_function.field-0.0)
    (rw c.reverse.ensures at c.in_err-transform_reactive_function.ensures.walk))
