use Rattle.rc_show.proofs.instruction.calls.function_expression.Goals as goal

pub returns-clause-sends : goal.returns-clause-sends
returns-clause-sends g c =
    rw (c.with_some-2.ensures, c.with_some.ensures, c.with.ensures, c.tagged.ensures) at c.send.ensures.sends
