use Rattle.std.proofs.lemmas.Result.{on_ok_weaker}
use Rattle.rc_show.proofs.SendingLemmas.{text_sent}
use Rattle.rc_flat.specs.ShownEnvironment.{shape_data}
use Rattle.rc_answer.proofs.environment.ShapePart.send.Goals as goal

pub returns-in-StartTransition-clause-sends : goal.returns-in-StartTransition-clause-sends
unfolding shape_data
returns-in-StartTransition-clause-sends g c =
    rw c.in-StartTransition.is
    (on_ok_weaker c.str-in-StartTransition.result (text_sent _ _ _) c.str-in-StartTransition.ensures)

pub returns-in-SetOptimistic-clause-sends : goal.returns-in-SetOptimistic-clause-sends
unfolding shape_data
returns-in-SetOptimistic-clause-sends g c =
    rw c.in-SetOptimistic.is
    (on_ok_weaker c.str-in-SetOptimistic.result (text_sent _ _ _) c.str-in-SetOptimistic.ensures)
