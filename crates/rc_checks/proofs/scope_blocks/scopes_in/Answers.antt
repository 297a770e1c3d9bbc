-- each scope of a spelled tree is in it once
use Rattle.std.proofs.Common.{sym, subst}
use Rattle.rc_tree.specs.ScopesIn.{HasScopesOnce}
use Rattle.rc_checks.proofs.ScopeBlocks.SpelledOnce.{spelled_once}
use Rattle.rc_tree.proofs.StepLemmas.{any_case}
use Rattle.rc_checks.proofs.scope_blocks.scopes_in.Goals as goal

pub returns-clause-once : goal.returns-clause-once
returns-clause-once c = λ hir env func spelled same.
    any_case c.scopes_in.result (subst HasScopesOnce (sym same) (spelled_once hir env func spelled))
