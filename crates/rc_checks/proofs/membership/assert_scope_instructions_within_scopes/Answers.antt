-- Each answer is that of the walk, which starts with no scope around.
use Rattle.std.proofs.Common.{◌∙◌, ap, Err}
use Rattle.std.proofs.lemmas.Result.{err_from_is_err_and}
use Rattle.rc_hir.specs.declared.fault.Fault.TheVariants.{BadName}
use Rattle.rc_tree.specs.ScopesIn.{scopes_in}
use Rattle.rc_checks.proofs.FaultNames.{no_name_outside}
use Rattle.rc_checks.proofs.MembershipCheck.CheckLemmas.{failed_bad_name, failed_completed, failed_only}
use Rattle.rc_checks.proofs.MembershipCheck.CheckLemmas.{found_completed, none_outside}
use Rattle.rc_checks.proofs.MembershipCheck.UnknownVisits.{first_unknown_outside}
use Rattle.rc_checks.proofs.membership.assert_scope_instructions_within_scopes.Goals as goal

pub returns-in_err-visit_reactive_function-clause-scope_completed :
    goal.returns-in_err-visit_reactive_function-clause-scope_completed
returns-in_err-visit_reactive_function-clause-scope_completed c =
    let p = err_from_is_err_and c.from_residual-in_err-visit_reactive_function.result
    c.from_residual-in_err-visit_reactive_function.ensures.1 in
    failed_completed c.args.env.now c.in_ok-blocks.blocks c.args.func.now.body c.in_ok-blocks.ensures
    c.from_residual-in_err-visit_reactive_function.result
    c.visit_reactive_function.new.state c.in_err-visit_reactive_function.field-0.0 (p.1 ∙ ap (λ f. Err f) p.2)
    (rw c.new.ensures at c.in_err-visit_reactive_function.ensures)

pub returns-in_err-visit_reactive_function-clause-bad_name : goal.returns-in_err-visit_reactive_function-clause-bad_name
returns-in_err-visit_reactive_function-clause-bad_name c =
    let p = err_from_is_err_and c.from_residual-in_err-visit_reactive_function.result
    c.from_residual-in_err-visit_reactive_function.ensures.1 in
    failed_bad_name c.args.env.now c.in_ok-blocks.blocks c.args.func.now.body c.in_ok-blocks.ensures
    c.from_residual-in_err-visit_reactive_function.result
    c.visit_reactive_function.new.state c.in_err-visit_reactive_function.field-0.0 (p.1 ∙ ap (λ f. Err f) p.2)
    (rw c.new.ensures at c.in_err-visit_reactive_function.ensures)

pub returns-in_err-visit_reactive_function-clause-named : goal.returns-in_err-visit_reactive_function-clause-named
returns-in_err-visit_reactive_function-clause-named c = λ table index is.
    first_unknown_outside c.args.env.now (BadName table index) (scopes_in c.args.func.now.body) c.args.func.now
    (returns-in_err-visit_reactive_function-clause-bad_name c table index is)

pub returns-in_err-visit_reactive_function-clause-sound : goal.returns-in_err-visit_reactive_function-clause-sound
returns-in_err-visit_reactive_function-clause-sound c = λ known table index is.
    no_name_outside c.args.func.now c.args.env.now (BadName table index) known
    (returns-in_err-visit_reactive_function-clause-named c table index is)

pub returns-in_err-visit_reactive_function-clause-only : goal.returns-in_err-visit_reactive_function-clause-only
returns-in_err-visit_reactive_function-clause-only c =
    let p = err_from_is_err_and c.from_residual-in_err-visit_reactive_function.result
    c.from_residual-in_err-visit_reactive_function.ensures.1 in
    failed_only c.args.env.now c.in_ok-blocks.blocks c.args.func.now.body c.in_ok-blocks.ensures
    c.from_residual-in_err-visit_reactive_function.result
    c.visit_reactive_function.new.state c.in_err-visit_reactive_function.field-0.0 (p.1 ∙ ap (λ f. Err f) p.2)
    (rw c.new.ensures at c.in_err-visit_reactive_function.ensures)

pub returns-in-Some-clause-scope_completed : goal.returns-in-Some-clause-scope_completed
returns-in-Some-clause-scope_completed c =
    found_completed c.args.env.now c.in_ok-blocks.blocks c.args.func.now.body c.in_ok-blocks.ensures
    c.visit_reactive_function.new.state c.in-Some.found
    (rw c.new.ensures at c.in_ok-visit_reactive_function.ensures) c.in-Some.is

pub returns-clause-ok : goal.returns-clause-ok
returns-clause-ok c =
    none_outside c.args.env.now c.in_ok-blocks.blocks c.args.func.now.body c.in_ok-blocks.ensures
    c.visit_reactive_function.new.state
    (rw c.new.ensures at c.in_ok-visit_reactive_function.ensures) c.in-None.is
