use Rattle.std.proofs.Common.{◌↔◌, Contains, subst, sym}
use Rattle.std.proofs.lemmas.Result.{IfOk-weaker}
use Rattle.rc_pipe.proofs.fates.fates_of.Goals as goal

-- the listed scopes are those of the set
pub returns-clause-listed : goal.returns-clause-listed
returns-clause-listed c = IfOk-weaker c.all_fates.result _ _
    (λ fates same scope. subst (λ list. Contains list scope ↔ Contains c.args.spelled.now scope) (sym same)
    (c.in_ok-scopes.ensures.same scope)) c.all_fates.ensures.listed
