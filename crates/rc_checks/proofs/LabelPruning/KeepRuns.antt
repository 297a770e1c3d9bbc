-- A body without its unused labels has the runs that it had, and no others.
--
-- The body is the tree of a plain one, and so is the body that is left, with the same runs (`PlainKeepsRuns`). A
-- tree stands for one plain tree at most, so a run of the one body is one of the other.
use Rattle.std.proofs.Common.{◌≡◌, ◌↔◌, List, sym, ap, ◌∙◌, subst}
use Rattle.std.specs.FinSet.{empty}
use Rattle.rc_hir.specs.Model.{Environment}
use Rattle.rc_tree.specs.Rebuilt.{rebuilt_block}
use Rattle.rc_tree.specs.Model.{ReactiveFunction, ReactiveBlock}
use Rattle.rc_tree.proofs.StepLemmas.{Ok-injective}
use Rattle.rc_runs.specs.Event.{Event, End}
use Rattle.rc_runs.specs.PlainTree.{Statements}
use Rattle.rc_runs.specs.TreeOf.{block_of}
use Rattle.rc_runs.specs.Completion.{Ended}
use Rattle.rc_runs.specs.EarlyReturns.{NoEarlyReturnSet}
use Rattle.rc_runs.specs.BodyRun.{RunsList, IsBodyRun}
use Rattle.rc_runs.proofs.TreeOfLemmas.{block_of-injective}
use Rattle.rc_runs.proofs.EveryBlockIsPlain.{every_block_is_plain}
use Rattle.rc_runs.proofs.ReturningLemmas.{statements_run, body_run}
use Rattle.rc_checks.specs.Labels.{Targets, label_rules, IsWithoutUnusedLabels}
use Rattle.rc_checks.proofs.LabelPruning.PlainPruned.{PrunedList}
use Rattle.rc_checks.proofs.LabelPruning.PlainKeepsRuns.{pruned_list}

module _ (before after : ReactiveFunction) (env : Environment)
    (without : IsWithoutUnusedLabels before.body after.body) (none : NoEarlyReturnSet env) where
  -- the body that is left, where the body is the tree of plain statements
  after-plain : (statements : Statements) → before.body ≡ block_of statements →
      after.body ≡ block_of (pruned_list env statements empty).after
  after-plain statements e =
      let pruned : PrunedList env statements empty = pruned_list env statements empty in
      let rebuilt = sym without.rebuilt ∙ ap (λ block. rebuilt_block label_rules block empty) e ∙ pruned.rebuilt in
      ap (λ (p : Targets × ReactiveBlock). p.1)
      (Ok-injective (without.targets, after.body) (pruned.behind, block_of pruned.after) rebuilt)

  run_after : (events : List Event) (end : End) → IsBodyRun before env events end → IsBodyRun after env events end
  run_after events end run = body_run env none (after-plain run.statements run.body)
      ((pruned_list env run.statements empty).alike.0 events (Ended end) (statements_run env none run))

  run_before : (events : List Event) (end : End) → IsBodyRun after env events end → IsBodyRun before env events end
  run_before events end run =
      let plain = every_block_is_plain before.body in
      let pruned : PrunedList env plain.0 empty = pruned_list env plain.0 empty in
      let same : run.statements ≡ pruned.after =
      block_of-injective run.statements pruned.after (sym run.body ∙ after-plain plain.0 (sym plain.1)) in
      body_run env none (sym plain.1) (pruned.alike.1 events (Ended end)
      (subst (λ s. RunsList env s events (Ended end)) same (statements_run env none run)))

-- label pruning keeps the set of body runs of every tree, where no scope has an early return
pub labels_keep_runs : (before after : ReactiveFunction) → after ≡ record before { body = after.body } →
    IsWithoutUnusedLabels before.body after.body → (env : Environment) → NoEarlyReturnSet env →
    (events : List Event) (end : End) → IsBodyRun before env events end ↔ IsBodyRun after env events end
labels_keep_runs before after header without env none events end =
    (run_after before after env without none events end, run_before before after env without none events end)
