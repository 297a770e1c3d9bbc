use Rattle.std.proofs.lemmas.Result.{on_ok_weaker}
use Rattle.rc_flat.proofs.EnvironmentReadsBack.{scope_again}
use Rattle.rc_answer.proofs.scope.ReactiveScopePart.send.Goals as goal

pub returns-clause-again : goal.returns-clause-again
returns-clause-again g c =
    on_ok_weaker c.send.result
    (λ h. scope_again _ _ _ _ _ _ h.0.1 h.0.0.0.0.1 h.0.0.0.0.0.1 h.1 h.0.0.0.1 h.0.0.1)
    (rw (
      c.with-2.ensures,
      c.with_part-3.ensures,
      c.with.ensures,
      c.with_some_part.ensures,
      c.with_part-2.ensures,
      c.with_part.ensures,
    ) at c.send.ensures.again)
