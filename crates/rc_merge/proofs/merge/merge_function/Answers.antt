use Rattle.std.proofs.Common.{subst}
use Rattle.std.proofs.lemmas.Result.{IfOk-weaker}
use Rattle.rc_merge.specs.LastUses.{last_uses_in}
use Rattle.rc_merge.specs.inside.MergeSteps.{AreRebuilt}
use Rattle.rc_merge.proofs.merge.merge_function.Goals as goal

-- the uses are the last ones in the body, and the scopes are a copy of those of the environment
pub returns-clause-merged : goal.returns-clause-merged
returns-clause-merged c =
    let env = c.args.env.now in
    let body = c.args.func.now.body in
    let after = c.merge_body.new.func.body in
    IfOk-weaker c.merge_body.result _ _
    (λ tables rebuilt. record {
      header = c.merge_body.ensures.header;
      are = subst (λ scopes. AreRebuilt env (last_uses_in env body) c.args.merged body scopes after tables)
          c.in_ok-scopes.ensures
          (subst (λ uses. AreRebuilt env uses c.args.merged body c.in_ok-scopes.scopes after tables)
          c.in_ok-uses.ensures.uses rebuilt);
    })
    c.merge_body.ensures.rebuilt
