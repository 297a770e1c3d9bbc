-- The clauses of the check of break targets and of label pruning, one after the other.
use Rattle.std.proofs.Common.{◌∙◌, refl}
use Rattle.std.proofs.lemmas.Result.{err_from_is_err_and}
use Rattle.rc_pipe.proofs.UnopenedScopes.{none_spelled}
use Rattle.rc_pipe.proofs.passes.check.Goals as goal

pub returns-clause-ok : goal.returns-clause-ok
returns-clause-ok c =
    let labels = c.in_ok-prune_unused_labels.ensures in
    record {
      labels = labels.ok;
      header = labels.header;
      kept_scope_blocks = labels.kept_scope_blocks;
      kept_environment = refl;
    }

-- the graph spells no scope block if none of its blocks opens a scope
pub spelled_scopes-requires : goal.spelled_scopes-requires
spelled_scopes-requires c = λ none.
    c.in_ok-prune_unused_labels.ensures.kept_scopes
    ∙ none_spelled c.args.hir.now none c.args.env.now c.args.func.now c.requires.spelled

-- a spelled tree passes the check of break targets
pub returns-in_err-assert_well_formed_break_targets-clause-refused :
    goal.returns-in_err-assert_well_formed_break_targets-clause-refused
returns-in_err-assert_well_formed_break_targets-clause-refused c =
    let exit = c.from_residual in
    let p = err_from_is_err_and exit.result exit.ensures.1 in
    rw (p.1, p.2) (c.in_err-assert_well_formed_break_targets.ensures.spelled c.args.hir.now c.requires.spelled)
