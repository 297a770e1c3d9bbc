use Rattle.std.proofs.Common.{◌∙◌, ap}
use Rattle.std.specs.Prelude.{count_by}
use Rattle.rc_pipe.proofs.BlocksLemmas.{count_values}
use Rattle.rc_pipe.proofs.causes.scope_count.Goals as goal
use Rattle.rc_pipe.specs.Causes.{is_scope}

pub returns : goal.returns
returns c =
    c.scopes_among.ensures ∙ ap (count_by (λ block. is_scope block.terminal)) c.values.ensures
    ∙ count_values (λ block. is_scope block.terminal) c.args.hir.now.body.blocks
