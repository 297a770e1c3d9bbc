use Rattle.std.proofs.Common.{sym, subst}
use Rattle.rc_early.proofs.GrowsLemmas.{identifier_grows}
use Rattle.rc_early.specs.inside.Growing.{Grows}
use Rattle.rc_early.proofs.entries.add_temporary.Goals as goal

pub returns-clause-grows : goal.returns-clause-grows
returns-clause-grows c = subst (Grows c.args.env.now) (sym c.in_ok-next_identifier_id.ensures.ok)
    (identifier_grows c.args.span c.args.env.now)
