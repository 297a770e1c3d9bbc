-- A graph has one answer: it spells one function, and each pass has one result.
pub mod Unique
pub mod MemoizedOnce
pub mod NotEscaping
pub mod ReactiveDependencies
pub mod AlwaysInvalidating
use Rattle.std.proofs.Common.{◌≡◌, ◌∙◌, List, ap, subst, sym}
use Rattle.rc_hir.specs.Model.{Environment, HirFunction}
use Rattle.rc_tree.specs.Model.{ReactiveFunction}
use Rattle.rc_tree.specs.declared.fate.ScopeFate.{ScopeFate}
use Rattle.rc_early.specs.EarlyReturned.{Progress}
use Rattle.rc_early.specs.Entries.{with_early_returns}
use Rattle.rc_merge.proofs.OneMerging as merging
use Rattle.rc_pipe.specs.Headline.{IsAnswer}
use Rattle.rc_pipe.specs.Passes.{AfterDependencies, AfterEarlyReturns, AfterEscape, AfterInvalidating, AfterLabels}
use Rattle.rc_pipe.specs.Passes.{AfterMerging, AfterUnusedScopes, HasOthersPruned, IsPruned, PassState, state}
use Rattle.rc_pipe.specs.declared.pipeline.Pruned.{Pruned}
use Rattle.rc_pipe.proofs.OneAnswer.AlwaysInvalidating as invalidating
use Rattle.rc_pipe.proofs.OneAnswer.NotEscaping as escape
use Rattle.rc_pipe.proofs.OneAnswer.ReactiveDependencies as dependencies
use Rattle.rc_pipe.proofs.OneAnswer.Unique.{one_end, one_state}

-- from one state each pass leads to one state
module _ {before after after1 : PassState} where
  one_after_labels : AfterLabels before after → AfterLabels before after1 → after ≡ after1
  one_after_labels is is1 =
      let one = one_end is.labels.targets is1.labels.targets after.func.body after1.func.body is.labels.rebuilt
      is1.labels.rebuilt in
      one_state before after after1 is.header is1.header one.1 (is.kept_environment ∙ sym is1.kept_environment)

  one_after_dependencies : AfterDependencies before after → AfterDependencies before after1 → after ≡ after1
  one_after_dependencies is is1 =
      let func = is.kept_function ∙ sym is1.kept_function in
      let env = dependencies.one_environment before.func.body before.env after.env after1.env is.scopes is1.scopes in
      λ i. state (func i) (env i)

  one_after_early_returns : AfterEarlyReturns before after → AfterEarlyReturns before after1 → after ≡ after1
  one_after_early_returns is is1 =
      let a = is.returns.makes in
      let b = is1.returns.makes in
      let one = one_end _ _ after.func.body after1.func.body a.rebuilt b.rebuilt in
      one_state before after after1 is.header is1.header one.1
      (is.returns.entries ∙ ap (λ (p : Progress). with_early_returns p.made before.env) one.0
      ∙ sym is1.returns.entries)

  module _ {log log1 : List ScopeFate} where
    one_after_escape : AfterEscape before after log → AfterEscape before after1 log1 → after ≡ after1
    one_after_escape is is1 = one_state before after after1 is.header is1.header
        (escape.one_body before.env before.func after.func.body after1.func.body log log1 is.scopes is1.scopes)
        (is.kept_environment ∙ sym is1.kept_environment)

    one_after_unused_scopes : AfterUnusedScopes before after log → AfterUnusedScopes before after1 log1
        → after ≡ after1
    one_after_unused_scopes is is1 =
        let one = one_end _ _ after.func.body after1.func.body is.scopes.rebuilt is1.scopes.rebuilt in
        one_state before after after1 is.header is1.header one.1 (is.kept_environment ∙ sym is1.kept_environment)

    one_after_merging : AfterMerging before after log → AfterMerging before after1 log1 → after ≡ after1
    one_after_merging is is1 =
        one_state before after after1 is.header is1.header
        (merging.one_body before.func.body before.env after.func.body after1.func.body after.env after1.env log log1
        is.scopes is1.scopes)
        (merging.one_environment before.func.body before.env after.func.body after1.func.body after.env after1.env log
        log1 is.scopes is1.scopes)

    one_after_invalidating : AfterInvalidating before after log → AfterInvalidating before after1 log1
        → after ≡ after1
    one_after_invalidating is is1 = one_state before after after1 is.header is1.header
        (invalidating.one_body before.env before.func.body after.func.body after1.func.body log log1 is.scopes
        is1.scopes)
        (is.kept_environment ∙ sym is1.kept_environment)

-- so the passes between those on escaping scopes and on early returns lead from one state through the same states
module _ {before after after1 : PassState} {log log1 : List ScopeFate} (others : HasOthersPruned before after log)
    (others1 : HasOthersPruned before after1 log1) where
  same_reactive : others.reactive ≡ others1.reactive
  same_reactive = one_after_dependencies others.dependencies others1.dependencies

  same_used : others.used ≡ others1.used
  same_used = one_after_unused_scopes others.scopes
      (subst (λ s. AfterUnusedScopes s others1.used others1.unused) (sym same_reactive) others1.scopes)

  same_merged : others.merged ≡ others1.merged
  same_merged = one_after_merging others.merges
      (subst (λ s. AfterMerging s others1.merged others1.joined) (sym same_used) others1.merges)

  one_after_others : after ≡ after1
  one_after_others = one_after_invalidating others.invalidating
      (subst (λ s. AfterInvalidating s after1 others1.always_invalidating) (sym same_merged) others1.invalidating)

-- and so do all passes
module _ {spelled pruned pruned1 : PassState} (passes : IsPruned spelled pruned)
    (passes1 : IsPruned spelled pruned1) where
  same_labeled : passes.labeled ≡ passes1.labeled
  same_labeled = one_after_labels passes.labels passes1.labels

  same_escaping : passes.escaping ≡ passes1.escaping
  same_escaping = one_after_escape passes.escapes
      (subst (λ s. AfterEscape s passes1.escaping passes1.not_escaping) (sym same_labeled) passes1.escapes)

  same_invalidated : passes.invalidated ≡ passes1.invalidated
  same_invalidated = one_after_others passes.others
      (subst (λ s. HasOthersPruned s passes1.invalidated passes1.decided) (sym same_escaping) passes1.others)

  pub one_pruned : pruned ≡ pruned1
  one_pruned = one_after_early_returns passes.early_returns
      (subst (λ s. AfterEarlyReturns s pruned1) (sym same_invalidated) passes1.early_returns)

-- a graph and its environment have one answered function, and one environment after the passes
pub one_answer : (hir : HirFunction) (env answered answered1 : Environment) (pruned pruned1 : Pruned)
    → IsAnswer hir env answered pruned → IsAnswer hir env answered1 pruned1
    → (answered ≡ answered1) × (pruned.func ≡ pruned1.func)
one_answer hir env answered answered1 pruned pruned1 answer answer1 =
    let spelled = answer1.one_tree answer.spelled answer.spells in
    let passes1 = subst (λ (func : ReactiveFunction). IsPruned (state func env) (state pruned1.func answered1))
    (sym spelled) answer1.passes in
    let same = one_pruned answer.passes passes1 in
    (ap (λ (s : PassState). s.env) same, ap (λ (s : PassState). s.func) same)
