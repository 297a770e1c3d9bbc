use Rattle.rc_flat.specs.ShownGraph.{terminal_data}
use Rattle.rc_answer.proofs.terminal.jumps.unreachable_terminal.Goals as goal

pub returns-clause-sends : goal.returns-clause-sends
unfolding terminal_data
returns-clause-sends g c = rw (c.with_some.ensures, c.tagged.ensures, c.with.ensures) at c.send.ensures.sends
