use Rattle.std.proofs.Common.{◌∙◌, sym, ap}
use Rattle.std.specs.Option.{option_copied}
use Rattle.rc_flow.proofs.PositionLemmas.{stays_found, stays_missing}
use Rattle.rc_flow.proofs.spread.Spread.stays.Goals as goal

pub returns-in-Some-position : goal.returns-in-Some-position
returns-in-Some-position c =
    stays_found c.args.self.now.names c.args.self.now.ends c.args.scope c.args.dependency.now.identifier
    c.in-Some.size.now (sym c.get.ensures ∙ ap option_copied c.in-Some.is) c.in-Some-position.place
    (sym c.position.ensures ∙ c.in-Some-position.is)

pub returns-in-None-position : goal.returns-in-None-position
returns-in-None-position c =
    stays_missing c.args.self.now.names c.args.self.now.ends c.args.scope c.args.dependency.now.identifier
    c.in-Some.size.now (sym c.get.ensures ∙ ap option_copied c.in-Some.is)
    (sym c.position.ensures ∙ c.in-None-position.is)
