use Rattle.std.proofs.lemmas.Result.{on_ok_weaker}
use Rattle.rc_answer.proofs.GraphSent.{keyed_sent}
use Rattle.rc_answer.proofs.graph.send_block.Goals as goal

pub returns-clause-sends : goal.returns-clause-sends
returns-clause-sends g c =
    on_ok_weaker c.send.result (keyed_sent _ _ _ _ _ c.other_key-other.ensures)
    (rw (c.with_part.ensures, c.with_some.ensures, c.with-2.ensures, c.with.ensures) at c.send.ensures.sends)
