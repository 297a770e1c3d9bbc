use Rattle.std.proofs.Common.{◌∙◌}
use Rattle.rc_flow.proofs.AlwaysInvalidating.RulesLemmas.{popped_answer}
use Rattle.rc_flow.proofs.always_invalidating.next_answer.Goals as goal

pub returns-clause-answer : goal.returns-clause-answer
returns-clause-answer c =
    c.unwrap_or.ensures
    ∙ popped_answer c.args.answers.now c.pop.new.self c.pop.result c.pop.ensures.none c.pop.ensures.last
    c.pop.ensures.empty
