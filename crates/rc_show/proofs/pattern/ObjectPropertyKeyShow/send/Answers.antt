use Rattle.rc_show.specs.ShownParts.Patterns.{property_key_data}
use Rattle.rc_show.proofs.pattern.ObjectPropertyKeyShow.send.Goals as goal

pub returns-in-Identifier-clause-sends : goal.returns-in-Identifier-clause-sends
unfolding property_key_data
returns-in-Identifier-clause-sends g c = rw c.in-Identifier.is c.send_variant.ensures.sends
