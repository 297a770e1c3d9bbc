use Rattle.rc_merge.proofs.merge.merge_reactive_scopes_that_invalidate_together.Goals as goal

pub returns-clause-ok : goal.returns-clause-ok
returns-clause-ok c =
    let call = c.in_ok-decide_merged_scopes in
    λ once. record { log = call.field-0; merges = call.ensures.ok once }
