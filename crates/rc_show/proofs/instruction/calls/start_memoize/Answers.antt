use Rattle.rc_show.proofs.instruction.calls.start_memoize.Goals as goal

pub returns-clause-sends : goal.returns-clause-sends
returns-clause-sends g c =
    rw (c.with_some.ensures, c.with-2.ensures, c.tagged.ensures, c.with.ensures) at c.send.ensures.sends
