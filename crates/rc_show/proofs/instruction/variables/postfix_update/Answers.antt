use Rattle.rc_show.proofs.instruction.variables.postfix_update.Goals as goal

pub returns-clause-sends : goal.returns-clause-sends
returns-clause-sends g c =
    rw (c.with-3.ensures, c.with_some.ensures, c.with-2.ensures, c.with.ensures, c.tagged.ensures)
    at c.send.ensures.sends
