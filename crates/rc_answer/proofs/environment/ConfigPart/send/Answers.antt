use Rattle.rc_flat.specs.ShownEnvironment.{config_data}
use Rattle.rc_answer.proofs.environment.ConfigPart.send.Goals as goal

pub returns-clause-sends : goal.returns-clause-sends
unfolding config_data
returns-clause-sends g c = rw (c.with-2.ensures, c.with.ensures) at c.send.ensures.sends
