-- Pruning unused scopes keeps each measure that a scope block has as a pruned one. So it keeps the numbers of a tree,
-- and the tree without its scopes.
use Rattle.std.proofs.Common.{◌≡◌, Bool, true, false, List, Option, None, Some, refl, slice_get}
use Rattle.std.specs.Prelude.{IfOk}
use Rattle.rc_hir.specs.Model.{Environment, ReactiveScope}
use Rattle.rc_runs.proofs.EraseLemmas.{erase_kept, erase_measure, pruned_like_kept}
use Rattle.rc_runs.specs.Erase.{erased}
use Rattle.rc_tree.proofs.RebuiltKeeps.{RulesKeep}
use Rattle.rc_tree.proofs.TreeNamesLemmas.{names_kept, names_measure, pruned_names}
use Rattle.rc_tree.proofs.Measures.{Measure, one}
use Rattle.rc_tree.specs.Pruned.{as_pruned}
use Rattle.rc_tree.specs.TreeNames.{names_in}
use Rattle.rc_tree.specs.Model.{ReactiveBlock, ReactiveFunction, ReactiveScopeBlock}
use Rattle.rc_tree.specs.declared.fate.ScopeFate.{ScopeFate}
use Rattle.rc_tree.specs.declared.statement.ReactiveStatement.TheVariants as reactive
use Rattle.rc_checks.specs.UnusedScopes.{LosesUnusedScopes, Progress, is_used, judged, judged_by, nothing_met}
use Rattle.rc_checks.specs.UnusedScopes.{unused_scope_rules}

module _ {L C P : Type 0} (m : Measure L C P)
    (alike : (x : ReactiveScopeBlock) → one m (reactive.PrunedScope (as_pruned x)) ≡ one m (reactive.Scope x)) where
  by_use : (used : Bool) (around : Progress) (x : ReactiveScopeBlock) (met : Progress)
      → m.statements (judged_by used around x met).1 ≡ one m (reactive.Scope x)
  by_use true around x met = refl
  by_use false around x met = alike x

  by_scope : (found : Option ReactiveScope) (around : Progress) (x : ReactiveScopeBlock) (met : Progress)
      → IfOk (judged found around x met) (λ a. m.statements a.1 ≡ one m (reactive.Scope x))
  by_scope None around x met = tt
  by_scope (Some scope) around x met = by_use (is_used scope x.scope met.returns) around x met

  rules_keep : (env : Environment) → RulesKeep m (unused_scope_rules env)
  rules_keep env = record {
    row = λ x s. refl;
    terminal = λ x s. refl;
    pruned_scope = λ x s. refl;
    scope = λ around x met. by_scope (slice_get env.scopes x.scope.0) around x met;
    block = λ xs s. refl;
  }

-- the numbers of a tree stay
pub unused_scopes_keep_names : (env : Environment) (before after : ReactiveBlock) (log : List ScopeFate)
    → LosesUnusedScopes env before after log → names_in after ≡ names_in before
unused_scopes_keep_names env before after log is =
    names_kept (unused_scope_rules env) (rules_keep names_measure pruned_names env) before after nothing_met
    (record { returns = is.returns; log = log }) is.rebuilt

-- and so does the tree without its scopes
pub unused_scopes_keep_erased : (env : Environment) (old new : ReactiveFunction) (log : List ScopeFate)
    → new ≡ record old { body = new.body } → LosesUnusedScopes env old.body new.body log → erased new ≡ erased old
unused_scopes_keep_erased env old new log header is =
    erase_kept (unused_scope_rules env) (rules_keep erase_measure (λ x. pruned_like_kept (as_pruned x) x refl) env) old
    new nothing_met (record { returns = is.returns; log = log }) header is.rebuilt
