use Rattle.std.proofs.Common.{sym, ap, ◌∙◌}
use Rattle.std.specs.List.{list_any}
use Rattle.rc_runs.specs.Graph.{ends_unreachable}
use Rattle.rc_build.proofs.unreachable.has_unreachable_successor.Goals as goal

pub returns-clause-yes : goal.returns-clause-yes
returns-clause-yes c = λ h.
    sym (c.any_ends.ensures ∙ ap (list_any (ends_unreachable c.args.hir.now)) c.successors.ensures.blocks) ∙ h

pub returns-clause-no : goal.returns-clause-no
returns-clause-no c = λ h.
    sym (c.any_ends.ensures ∙ ap (list_any (ends_unreachable c.args.hir.now)) c.successors.ensures.blocks) ∙ h
