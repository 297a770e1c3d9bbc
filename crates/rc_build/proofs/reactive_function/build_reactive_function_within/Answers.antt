-- The numbers are looked at, and the rest is built as of a graph whose numbers are known.
use Rattle.std.proofs.lemmas.Result.{err_from_is_err_and}
use Rattle.rc_runs.proofs.NamesOutsideLemmas.{no_name_outside}
use Rattle.rc_build.proofs.reactive_function.build_reactive_function_within.Goals as goal

pub returns-in_err-check_names-clause-complete : goal.returns-in_err-check_names-clause-complete
returns-in_err-check_names-clause-complete c =
    let p = err_from_is_err_and c.from_residual.result c.from_residual.ensures.1 in
    rw (p.1, p.2) (λ func names spelled. absurd (no_name_outside c.args.hir.now c.args.env.now names
    c.in_err-check_names.field-0.0 c.in_err-check_names.ensures.bad_name))

pub returns-clause-complete : goal.returns-clause-complete
returns-clause-complete c = λ func names spelled. c.build_known_function.ensures.complete func spelled
