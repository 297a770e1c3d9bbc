use Rattle.rc_show.proofs.instruction.expressions.type_cast_expression.Goals as goal

pub returns-clause-sends : goal.returns-clause-sends
returns-clause-sends g c =
    rw (c.with-2.ensures, c.with_some.ensures, c.tagged.ensures, c.with.ensures) at c.send.ensures.sends
