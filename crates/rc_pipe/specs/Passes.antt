-- The sequence of passes over a spelled function and its environment, and the rules by which they decide fates.
use Rattle.std.specs.Prelude.{◌≡◌, ◌++◌, All, List}
use Rattle.rc_hir.specs.Model.{Environment}
use Rattle.rc_names.specs.Numbers.{EvaluationOrder, ScopeId}
use Rattle.rc_tree.specs.Decided.{FateRules, NoMore, Then}
use Rattle.rc_tree.specs.Model.{ReactiveFunction, ReactiveBlock}
use Rattle.rc_tree.specs.ScopesIn.{scopes_in}
use Rattle.rc_tree.specs.Visits.{visits_of}
use Rattle.rc_tree.specs.declared.fate.ScopeFate.{ScopeFate}
use Rattle.rc_checks.specs.Labels.{IsWithoutUnusedLabels}
use Rattle.rc_checks.specs.Membership.{IsInside, IsLastOutside}
use Rattle.rc_checks.specs.ScopeBlocks.{scope_blocks}
use Rattle.rc_checks.specs.UnusedScopes.{LosesUnusedScopes, unused_rule}
use Rattle.rc_early.specs.EarlyReturned.{HasEarlyReturns}
use Rattle.rc_escape.specs.NotEscaping.{HasDecidedNotEscaping, not_escaping_rule}
use Rattle.rc_flow.specs.AlwaysInvalidating.{PrunesInvalidating, invalidating_rule}
use Rattle.rc_flow.specs.ReactiveDependencies.{HasReactiveDependencies}
use Rattle.rc_merge.specs.Merged.{Merges, merging_rule}

-- a function with its environment, between two passes
pub record PassState : Type 0 where
  pub func : ReactiveFunction
  pub env : Environment

abbrev pub state : ReactiveFunction → Environment → PassState
state func env = record { func = func; env = env }

-- label pruning: the function lost its unused labels; its scope blocks and the environment stay
pub record AfterLabels (before after : PassState) : Type 0 where
  pub labels : IsWithoutUnusedLabels before.func.body after.func.body
  pub header : after.func ≡ record before.func { body = after.func.body }
  pub kept_scope_blocks : scope_blocks after.func.body ≡ scope_blocks before.func.body
  pub kept_environment : after.env ≡ before.env

-- escape pruning: the function lost the scope blocks that compute nothing memoized, which the pass decided, and the
-- environment stays
pub record AfterEscape (before after : PassState) (decided : List ScopeFate) : Type 0 where
  pub scopes : HasDecidedNotEscaping before.env before.func after.func.body decided
  pub header : after.func ≡ record before.func { body = after.func.body }
  pub kept_environment : after.env ≡ before.env

-- dependency pruning: each scope kept exactly the dependencies whose names are reactive, and the function stays
pub record AfterDependencies (before after : PassState) : Type 0 where
  pub scopes : HasReactiveDependencies before.func.body before.env after.env
  pub kept_function : after.func ≡ before.func

-- scope pruning: the function lost its unused scopes, which the pass decided, and the environment stays
pub record AfterUnusedScopes (before after : PassState) (decided : List ScopeFate) : Type 0 where
  pub scopes : LosesUnusedScopes before.env before.func.body after.func.body decided
  pub header : after.func ≡ record before.func { body = after.func.body }
  pub kept_environment : after.env ≡ before.env

-- merging: scope blocks that invalidate together became one, which the pass decided, and the environment has the scopes
-- as merged
pub record AfterMerging (before after : PassState) (decided : List ScopeFate) : Type 0 where
  pub scopes : Merges before.func.body before.env after.func.body after.env decided
  pub header : after.func ≡ record before.func { body = after.func.body }

-- pruning of what always invalidates: the function lost the blocks that depend on an unmemoized value, which the pass
-- decided, and the environment stays
pub record AfterInvalidating (before after : PassState) (decided : List ScopeFate) : Type 0 where
  pub scopes : PrunesInvalidating before.env before.func.body after.func.body decided
  pub header : after.func ≡ record before.func { body = after.func.body }
  pub kept_environment : after.env ≡ before.env

-- early returns: each `Return` in a scope block became a store and a jump out of the outermost scope block around it,
-- and the environment has what these name; the scope blocks stay
pub record AfterEarlyReturns (before after : PassState) : Type 0 where
  pub returns : HasEarlyReturns before.func.body before.env after.func.body after.env
  pub header : after.func ≡ record before.func { body = after.func.body }
  pub kept_scopes : scopes_in after.func.body ≡ scopes_in before.func.body

-- no operand of the body is outside the blocks of its scope
abbrev pub AreInside : Environment → ReactiveBlock → Type 0
AreInside env body = All (IsInside env (scopes_in body)) (visits_of env.functions body)

-- the last operand outside is visited at that id, and has that scope
abbrev pub EndsOutside : Environment → ReactiveBlock → EvaluationOrder → ScopeId → Type 0
EndsOutside env body id scope = IsLastOutside env (scopes_in body) (visits_of env.functions body) id scope

-- the passes after the one on escaping scopes, up to early returns: dependencies that aren't reactive are gone, the
-- function lost its unused scopes, those that invalidate together are merged, and those that always invalidate are
-- gone; the log has what was decided
pub record HasOthersPruned (escaping pruned : PassState) (log : List ScopeFate) : Type 0 where
  pub reactive : PassState
  pub dependencies : AfterDependencies escaping reactive
  pub used : PassState
  pub unused : List ScopeFate
  pub scopes : AfterUnusedScopes reactive used unused
  pub merged : PassState
  pub joined : List ScopeFate
  pub merges : AfterMerging used merged joined
  pub always_invalidating : List ScopeFate
  pub invalidating : AfterInvalidating merged pruned always_invalidating
  pub told : log ≡ unused ++ (joined ++ always_invalidating)

-- the passes lead from the spelled function and its environment to the pruned ones, by the states in between and by
-- what each pass decided
pub record IsPruned (spelled pruned : PassState) : Type 0 where
  pub labeled : PassState
  pub labels : AfterLabels spelled labeled
  pub inside : AreInside spelled.env spelled.func.body
  pub escaping : PassState
  pub not_escaping : List ScopeFate
  pub escapes : AfterEscape labeled escaping not_escaping
  pub invalidated : PassState
  pub decided : List ScopeFate
  pub others : HasOthersPruned escaping invalidated decided
  pub early_returns : AfterEarlyReturns invalidated pruned

-- the rules of the passes that decide fates, in their order, each judged on what its pass received
abbrev pub other_rules : {escaping pruned : PassState} {log : List ScopeFate} → HasOthersPruned escaping pruned log
    → FateRules
other_rules others =
    Then (unused_rule others.reactive.env others.reactive.func.body)
    (Then (merging_rule others.used.env others.used.func.body)
    (Then (invalidating_rule others.merged.env others.merged.func.body) NoMore))

abbrev pub fate_rules : {spelled pruned : PassState} → IsPruned spelled pruned → FateRules
fate_rules passes =
    Then (not_escaping_rule passes.labeled.env passes.escapes.scopes.without.set) (other_rules passes.others)
