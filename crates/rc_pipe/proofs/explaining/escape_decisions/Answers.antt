-- The names are those of the set by which the pass decided.
use Rattle.std.proofs.lemmas.Result.{IfOk-weaker}
use Rattle.rc_pipe.proofs.explaining.escape_decisions.Goals as goal

pub returns-then-explain-clause-ok : goal.returns-then-explain-clause-ok
returns-then-explain-clause-ok c =
    IfOk-weaker c.explain_non_escaping_scopes.result _ _ (λ it told. (told.0, λ asked. told.1))
    c.explain_non_escaping_scopes.ensures.memoized
