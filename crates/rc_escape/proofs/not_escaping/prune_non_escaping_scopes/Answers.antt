use Rattle.std.proofs.lemmas.Result.{err_from_is_err_and}
use Rattle.rc_escape.proofs.not_escaping.prune_non_escaping_scopes.Goals as goal

pub returns-clause-ok : goal.returns-clause-ok
returns-clause-ok c = c.in_ok-decide_non_escaping_scopes.ensures.ok.without

pub returns-in_err-decide_non_escaping_scopes-clause-refused :
    goal.returns-in_err-decide_non_escaping_scopes-clause-refused
returns-in_err-decide_non_escaping_scopes-clause-refused c =
    let p = err_from_is_err_and c.from_residual.result c.from_residual.ensures.1 in
    rw (p.1, p.2) c.in_err-decide_non_escaping_scopes.ensures.refused
