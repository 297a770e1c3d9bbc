use Rattle.rc_flat.specs.ShownFlat.{flat_terminal_data}
use Rattle.rc_answer.proofs.view.terminal.TerminalViewShow.send.Goals as goal

pub returns-in-Break-clause-sends : goal.returns-in-Break-clause-sends
unfolding flat_terminal_data
returns-in-Break-clause-sends g c =
    rw (← c.self.view_is, c.in-Break.is)
    (rw (c.with_part.ensures, c.with-in-Break.ensures, c.tagged.ensures, c.with.ensures) at c.send.ensures.sends)

pub returns-in-Continue-clause-sends : goal.returns-in-Continue-clause-sends
unfolding flat_terminal_data
returns-in-Continue-clause-sends g c =
    rw (← c.self.view_is, c.in-Continue.is)
    (rw (
      c.with_part-in-Continue.ensures,
      c.with-in-Continue-2.ensures,
      c.tagged-in-Continue.ensures,
      c.with-in-Continue.ensures,
    ) at c.send-in-Continue.ensures.sends)
