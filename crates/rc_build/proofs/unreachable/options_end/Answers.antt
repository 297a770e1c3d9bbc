use Rattle.std.proofs.Common.{sym, ◌∙◌}
use Rattle.std.specs.Option.{option_to_list}
use Rattle.rc_runs.specs.Graph.{ends_unreachable}
use Rattle.rc_build.proofs.SuccessorsLemmas.{any_first, any_second}
use Rattle.rc_build.proofs.unreachable.options_end.Goals as goal

pub returns-then-option_ends : goal.returns-then-option_ends
returns-then-option_ends c = c.if-option_ends.true
    ∙ any_first (ends_unreachable c.args.hir.now) (option_to_list c.args.first) (option_to_list c.args.second)
    (sym c.option_ends.ensures ∙ c.if-option_ends.true)

pub returns-else-option_ends : goal.returns-else-option_ends
returns-else-option_ends c = c.option_ends-else-option_ends.ensures
    ∙ any_second (ends_unreachable c.args.hir.now) (option_to_list c.args.first) (option_to_list c.args.second)
    (sym c.option_ends.ensures ∙ c.if-option_ends.false)
