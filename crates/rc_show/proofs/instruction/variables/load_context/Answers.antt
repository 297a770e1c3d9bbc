use Rattle.rc_show.proofs.instruction.variables.load_context.Goals as goal

pub returns-clause-sends : goal.returns-clause-sends
returns-clause-sends g c = rw (c.with_some.ensures, c.with.ensures, c.tagged.ensures) at c.send.ensures.sends
