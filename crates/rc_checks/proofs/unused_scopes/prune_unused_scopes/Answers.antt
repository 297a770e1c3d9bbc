use Rattle.rc_checks.proofs.unused_scopes.prune_unused_scopes.Goals as goal

pub returns-clause-ok : goal.returns-clause-ok
returns-clause-ok c =
    let call = c.in_ok-decide_unused_scopes in
    record { log = call.field-0; loses = call.ensures.loses }
