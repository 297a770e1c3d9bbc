-- What the passes tell of their decisions: what each read, as it was where it decided.
use Rattle.std.specs.Prelude.{◌≡◌, ◌⊎◌, [], All, Contains, map}
use Rattle.rc_hir.specs.Model.{Environment, HirFunction}
use Rattle.rc_names.specs.Numbers.{ScopeId}
use Rattle.rc_order.specs.Order.{AreInOrder}
use Rattle.rc_flow.specs.AlwaysInvalidating.{IsInvalidating}
use Rattle.rc_flow.specs.InvalidatingCauses.{IsInvalidatingCause}
use Rattle.rc_merge.specs.Explained.{AreExplained}
use Rattle.rc_pipe.specs.Headline.{IsAnswer}
use Rattle.rc_pipe.specs.Passes.{IsPruned, PassState}
use Rattle.rc_pipe.specs.declared.explaining.Told.{Told}
use Rattle.rc_pipe.specs.declared.pipeline.Explained.{Explained}

-- what was told of each pass is what it read: the memoized names of the escape pass, by rising number; the scopes that
-- merging received, and the facts of each that it merged; and of each scope that always invalidates a cause
pub record AreTold {spelled pruned : PassState} (passes : IsPruned spelled pruned) (told : Told) : Type 0 where
  pub memoized : AreInOrder passes.escapes.scopes.without.set told.memoized
  pub received : told.received ≡ passes.others.used.env.scopes
  pub merged : AreExplained passes.others.used.env passes.others.used.func.body passes.others.joined told.merged
  pub causes : All (IsInvalidatingCause passes.others.merged.env passes.others.merged.func.body) told.causes
  pub each : (scope : ScopeId)
      → IsInvalidating passes.others.merged.env passes.others.merged.func.body scope
      → Contains (map (λ cause. cause.scope) told.causes) scope

-- the answer for a graph and its environment, and what the passes told of it; without a scope nothing is told
pub record IsExplained (hir : HirFunction) (env answered : Environment) (it : Explained) : Type 0 where
  pub answer : IsAnswer hir env answered it.pruned
  pub told : (it.pruned.fates ≡ []) ⊎ AreTold answer.passes it.told
