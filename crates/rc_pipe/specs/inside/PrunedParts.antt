-- The passes in parts: those on labels, and all before early returns; and what they told, if it was asked for.
use Rattle.std.specs.Prelude.{◌≡◌, ◌⊎◌, ◌++◌, [], All, Bool, Contains, IsTrue, List, map}
use Rattle.rc_hir.specs.Model.{Environment, HirFunction, ReactiveScope}
use Rattle.rc_names.specs.Numbers.{DeclarationId, ScopeId}
use Rattle.rc_tree.specs.ScopesIn.{scopes_in}
use Rattle.rc_tree.specs.declared.fate.ScopeFate.{ScopeFate}
use Rattle.rc_runs.specs.Erase.{erased}
use Rattle.rc_escape.specs.NotEscaping.{IsNeededOutput}
use Rattle.rc_flow.specs.AlwaysInvalidating.{IsInvalidating}
use Rattle.rc_flow.specs.InvalidatingCauses.{IsInvalidatingCause}
use Rattle.rc_flow.specs.declared.invalidating_cause.InvalidatingCause.{InvalidatingCause}
use Rattle.rc_merge.specs.Explained.{AreExplained}
use Rattle.rc_merge.specs.declared.facts.MergedFacts.{MergedFacts}
use Rattle.rc_order.specs.Order.{AreInOrder}
use Rattle.rc_pipe.specs.Explained.{AreTold}
use Rattle.rc_pipe.specs.Headline.{IsAnswer}
use Rattle.rc_pipe.specs.Passes.{AfterEscape, AfterLabels, AreInside, HasOthersPruned, IsPruned, PassState}
use Rattle.rc_pipe.specs.declared.passes.Decisions.{Decisions}
use Rattle.rc_pipe.specs.declared.pipeline.Explained.{Explained}

-- the function lost its unused labels, and its operands are inside the blocks of their scopes
pub record IsChecked (spelled labeled : PassState) : Type 0 where
  pub labels : AfterLabels spelled labeled
  pub inside : AreInside spelled.env spelled.func.body

-- what the passes after the one on escaping scopes told is what they read
pub record AreOthersTold {escaping pruned : PassState} {log : List ScopeFate}
    (others : HasOthersPruned escaping pruned log) (scopes : List ReactiveScope) (facts : List MergedFacts)
    (found : List InvalidatingCause) : Type 0 where
  pub received : scopes ≡ others.used.env.scopes
  pub merged : AreExplained others.used.env others.used.func.body others.joined facts
  pub causes : All (IsInvalidatingCause others.merged.env others.merged.func.body) found
  pub each : (scope : ScopeId) → IsInvalidating others.merged.env others.merged.func.body scope
      → Contains (map (λ cause. cause.scope) found) scope

-- all passes before early returns, with the scopes that have a block in the spelled function, with what was decided of
-- them and, if it was asked for, what was told of it; without scope blocks, the function is the one without its unused
-- labels, and nothing is told
pub record HasScopesPruned (explain : Bool) (spelled pruned : PassState) (decisions : Decisions) : Type 0 where
  pub labeled : PassState
  pub checked : IsChecked spelled labeled
  pub escaping : PassState
  pub not_escaping : List ScopeFate
  pub escapes : AfterEscape labeled escaping not_escaping
  pub log : List ScopeFate
  pub others : HasOthersPruned escaping pruned log
  pub kept_erased : erased pruned.func ≡ erased labeled.func
  pub listed : decisions.spelled ≡ scopes_in spelled.func.body
  pub told : decisions.log ≡ not_escaping ++ log
  pub explained : IsTrue explain → (decisions.spelled ≡ [])
      ⊎ (AreInOrder escapes.scopes.without.set decisions.told.memoized
      × AreOthersTold others decisions.told.received decisions.told.merged decisions.told.causes)
  -- a scope with an output that must be memoized keeps its block in the escape pass
  pub needed : (scope : ScopeId) (name : DeclarationId) → Contains (scopes_in labeled.func.body) scope
      → IsNeededOutput labeled.env labeled.func scope name → Contains (scopes_in escaping.func.body) scope

-- all passes, with the scopes that have a block in the spelled function, with what was decided of them and, if it was
-- asked for, what was told of it
pub record IsPrunedWith (explain : Bool) (spelled pruned : PassState) (decisions : Decisions) : Type 0 where
  pub passes : IsPruned spelled pruned
  pub listed : decisions.spelled ≡ scopes_in spelled.func.body
  pub told : decisions.log ≡ passes.not_escaping ++ passes.decided
  pub explained : IsTrue explain → (decisions.spelled ≡ []) ⊎ AreTold passes decisions.told
  -- a scope with an output that must be memoized keeps its block in the escape pass
  pub needed : (scope : ScopeId) (name : DeclarationId) → Contains (scopes_in passes.labeled.func.body) scope
      → IsNeededOutput passes.labeled.env passes.labeled.func scope name
      → Contains (scopes_in passes.escaping.func.body) scope

-- the answer for a graph and its environment and, if it was asked for, what was told of it
pub record IsExplainedIf (explain : Bool) (hir : HirFunction) (env answered : Environment) (it : Explained) :
    Type 0 where
  pub answer : IsAnswer hir env answered it.pruned
  pub explained : IsTrue explain → (it.pruned.fates ≡ []) ⊎ AreTold answer.passes it.told
