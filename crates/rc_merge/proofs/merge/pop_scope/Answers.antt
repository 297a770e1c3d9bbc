use Rattle.std.proofs.Common.{◌∙◌}
use Rattle.rc_merge.proofs.MergeLemmas.{popped_around}
use Rattle.rc_merge.proofs.merge.pop_scope.Goals as goal

pub returns-clause-around : goal.returns-clause-around
returns-clause-around c =
    c.unwrap_or.ensures
    ∙ popped_around c.args.outside.now c.pop.new.self c.pop.result c.pop.ensures.none c.pop.ensures.last
    c.pop.ensures.empty
