use Rattle.std.proofs.Common.{◌∙◌}
use Rattle.rc_checks.proofs.UnusedScopes.StepsLemmas.{popped_flag}
use Rattle.rc_checks.proofs.unused_scopes.pop_flag.Goals as goal

pub returns-clause-flag : goal.returns-clause-flag
returns-clause-flag c =
    c.unwrap_or.ensures
    ∙ popped_flag c.args.flags.now c.pop.new.self c.pop.result c.pop.ensures.none c.pop.ensures.last c.pop.ensures.empty
