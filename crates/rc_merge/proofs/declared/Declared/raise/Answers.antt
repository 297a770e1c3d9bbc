use Rattle.std.proofs.Common.{◌∙◌, ap}
use Rattle.std.specs.List.{filter}
use Rattle.rc_merge.specs.Joining.{is_still_used}
use Rattle.rc_merge.specs.inside.LastUsesMet.{uses_of}
use Rattle.rc_merge.proofs.CurrentLemmas.{current_raised}
use Rattle.rc_merge.proofs.declared.Declared.raise.Goals as goal

pub returns-clause-current : goal.returns-clause-current
returns-clause-current c =
    let declared = c.in_ok-declared.declared in
    let env = c.args.known.now.env.now in
    let uses = uses_of c.args.known.now.uses.now in
    current_raised env uses declared.end c.args.end declared.slots c.in_ok-declared.ensures.indexed.lasts
    c.in_ok-declared.ensures.below
    ∙ ap (filter (is_still_used env uses c.args.end)) c.in_ok-declared.ensures.current
