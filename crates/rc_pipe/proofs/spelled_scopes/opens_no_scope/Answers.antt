-- What holds of all values of the blocks holds of all their pairs.
use Rattle.std.proofs.Common.{◌≡◌, true, is_none, All, subst, sym}
use Rattle.rc_hir.specs.Model.{BasicBlock}
use Rattle.rc_runs.specs.Spelled.{scope_named}
use Rattle.rc_pipe.proofs.BlocksLemmas.{all_values, of_all_values}
use Rattle.rc_pipe.proofs.spelled_scopes.opens_no_scope.Goals as goal

abbrev OpensNone : BasicBlock → Type 0
OpensNone block = is_none (scope_named block.terminal) ≡ true

pub returns : goal.returns
returns c = (
  λ is. of_all_values OpensNone c.args.hir.now.body.blocks
      (subst (All OpensNone) c.values.ensures (c.open_none.ensures.0 is)),
  λ all. c.open_none.ensures.1
      (subst (All OpensNone) (sym c.values.ensures) (all_values OpensNone c.args.hir.now.body.blocks all)),
)
