-- No scope has two scope blocks in a function that passes received, and merging decided of each scope once.
use Rattle.std.proofs.Common.{◌∙◌, arith, ap, subst, sym}
use Rattle.std.specs.List.{IsDistinct}
use Rattle.rc_checks.proofs.UnusedScopes.Decided.{unused_decided}
use Rattle.rc_merge.proofs.DecidedByRule.{merging_decided}
use Rattle.rc_names.specs.Numbers.{same_id}
use Rattle.rc_pipe.proofs.PassesLemmas.{escape_decided, fewer}
use Rattle.rc_pipe.specs.Passes.{IsPruned, PassState}
use Rattle.rc_tree.proofs.DistinctLemmas.{at_most_once, differ, times-append}
use Rattle.rc_tree.specs.Decided.{FateRule, IsDecidedBy, decided}
use Rattle.rc_tree.specs.Model.{ReactiveBlock}
use Rattle.rc_tree.specs.ScopesIn.{HasScopesOnce, scopes_in}
use Rattle.rc_tree.specs.declared.fate.ScopeFate.{ScopeFate}
use Rattle.std.specs.Prelude.{List}

module _ (rule : FateRule) (before after : ReactiveBlock) (log : List ScopeFate)
    (is : IsDecidedBy rule before after log) (once : HasScopesOnce before) where
  -- a pass keeps that
  still_once : HasScopesOnce after
  still_once = differ (scopes_in after) (λ scope.
      let least = fewer rule before after log is scope in
      let most = at_most_once (scopes_in before) once scope in
      omega (arith, least, most))

  -- and decides of each scope once
  decided_once : IsDistinct same_id (decided log)
  decided_once = differ (decided log) (λ scope.
      let lost = is.lost scope in
      let parts = times-append scope (scopes_in after) (decided log) in
      let most = at_most_once (scopes_in before) once scope in
      omega (arith, lost, parts, most))

module _ {spelled pruned : PassState} (passes : IsPruned spelled pruned) (once : HasScopesOnce spelled.func.body) where
  pub reactive_once : HasScopesOnce passes.others.reactive.func.body
  reactive_once = subst (λ f. HasScopesOnce f.body) (sym passes.others.dependencies.kept_function)
      (still_once _ spelled.func.body passes.escaping.func.body passes.not_escaping
      (escape_decided passes.labels passes.escapes) once)

  used_once : HasScopesOnce passes.others.used.func.body
  used_once = still_once _ passes.others.reactive.func.body passes.others.used.func.body passes.others.unused
      (unused_decided passes.others.reactive.env passes.others.reactive.func.body passes.others.used.func.body
      passes.others.unused passes.others.scopes.scopes) reactive_once

  pub joined_once : IsDistinct same_id (decided passes.others.joined)
  joined_once = decided_once _ passes.others.used.func.body passes.others.merged.func.body passes.others.joined
      (merging_decided passes.others.used.func.body passes.others.used.env passes.others.merged.func.body
      passes.others.merged.env passes.others.joined passes.others.merges.scopes) used_once
