use Rattle.std.proofs.Common.{◌∙◌}
use Rattle.rc_merge.proofs.CurrentLemmas.{all_current}
use Rattle.rc_merge.proofs.declared.Declared.new.Goals as goal

pub returns-clause-current : goal.returns-clause-current
returns-clause-current c =
    let declared = c.in_ok-declared.declared in
    all_current declared.end declared.slots c.in_ok-declared.ensures.whole ∙ c.in_ok-declared.ensures.entries
