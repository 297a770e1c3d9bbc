-- the pruned block, from the empty set of targets
use Rattle.std.proofs.Common.{refl, sym, subst}
use Rattle.std.specs.List.{IsDistinct}
use Rattle.rc_names.specs.Numbers.{same_id}
use Rattle.rc_checks.proofs.LabelPruning.PruningLemmas.{without_labels}
use Rattle.rc_checks.proofs.LabelPruning.Keep.{labels_keep_names, labels_keep_scope_blocks, labels_keep_scopes}
use Rattle.rc_checks.proofs.LabelPruning.Keep.{labels_keep_visits}
use Rattle.rc_checks.proofs.LabelPruning.WalkLemmas.{without_labels_is_walked}
use Rattle.rc_checks.proofs.LabelPruning.KeepRuns.{labels_keep_runs}
use Rattle.rc_tree.proofs.TreeNamesLemmas.{still_known}
use Rattle.rc_checks.proofs.labels.prune_unused_labels.Goals as goal

pub returns-clause-ok : goal.returns-clause-ok
returns-clause-ok c = without_labels c.args.func.now.body c.prune_block.new.block c.new-targets.result
    c.prune_block.new.targets c.new-targets.ensures c.in_ok-prune_block.ensures

-- the walk makes the same tree
pub returns-clause-walked : goal.returns-clause-walked
returns-clause-walked c = (without_labels_is_walked c.args.func.now.body c.prune_block.new.block).0
    (returns-clause-ok c)

pub returns-clause-kept_names : goal.returns-clause-kept_names
returns-clause-kept_names c = labels_keep_names c.args.func.now.body c.prune_block.new.block (returns-clause-ok c)

pub returns-clause-kept_visits : goal.returns-clause-kept_visits
returns-clause-kept_visits c =
    labels_keep_visits c.args.env.now.functions c.args.func.now.body c.prune_block.new.block (returns-clause-ok c)

pub returns-clause-kept_scope_blocks : goal.returns-clause-kept_scope_blocks
returns-clause-kept_scope_blocks c =
    labels_keep_scope_blocks c.args.func.now.body c.prune_block.new.block (returns-clause-ok c)

pub returns-clause-kept_scopes : goal.returns-clause-kept_scopes
returns-clause-kept_scopes c =
    labels_keep_scopes c.args.func.now.body c.prune_block.new.block (returns-clause-ok c)

pub returns-clause-kept_runs : goal.returns-clause-kept_runs
returns-clause-kept_runs c = λ none.
    labels_keep_runs c.args.func.now (record c.args.func.now { body = c.prune_block.new.block }) refl
    (returns-clause-ok c) c.args.env.now none

pub returns-clause-known : goal.returns-clause-known
returns-clause-known c =
    still_known c.args.env.now c.args.func.now (record c.args.func.now { body = c.prune_block.new.block }) refl
    (returns-clause-kept_names c)

pub returns-clause-scopes_once : goal.returns-clause-scopes_once
returns-clause-scopes_once c = subst (IsDistinct same_id) (sym (returns-clause-kept_scopes c))
