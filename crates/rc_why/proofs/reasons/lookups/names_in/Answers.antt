use Rattle.std.proofs.Common.{subst}
use Rattle.std.proofs.lemmas.List.{take_all}
use Rattle.rc_why.proofs.NamesLemmas.{name_put}
use Rattle.rc_why.specs.inside.ToldFacts.{HasNames}
use Rattle.rc_why.proofs.reasons.lookups.names_in.Goals as goal

pub loop-name-preserved : goal.loop-name-preserved
loop-name-preserved c =
    name_put c.args.names.now c.loop-name.name-index _ c.loop-name-test.true c.loop-name.set _
    c.in_ok-insert.ensures.keys c.loop-name.invariant

pub returns : goal.returns
returns c = subst (λ first. HasNames first c.loop-name.set)
    (take_all c.loop-name.name-index c.args.names.now c.loop-name-test.false) c.loop-name.invariant
