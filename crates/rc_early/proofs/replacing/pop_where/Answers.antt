use Rattle.std.proofs.Common.{◌∙◌}
use Rattle.rc_early.proofs.StepsLemmas.{popped_where}
use Rattle.rc_early.proofs.replacing.pop_where.Goals as goal

pub returns-clause-last : goal.returns-clause-last
returns-clause-last c =
    c.unwrap_or.ensures
    ∙ popped_where c.args.around.now c.pop.new.self c.pop.result c.pop.ensures.none c.pop.ensures.last
    c.pop.ensures.empty
