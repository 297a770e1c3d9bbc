use Rattle.std.proofs.lemmas.Result.{on_ok_weaker}
use Rattle.rc_show.proofs.SendingLemmas.{text_sent}
use Rattle.rc_answer.proofs.fates.FatePart.send.Goals as goal
use Rattle.rc_answer.specs.ShownFates.{fate_data}

pub returns-in-NotEscaping-clause-sends : goal.returns-in-NotEscaping-clause-sends
unfolding fate_data
returns-in-NotEscaping-clause-sends g c =
    rw c.in-NotEscaping.is (on_ok_weaker c.str-in-NotEscaping.result (text_sent _ _ _) c.str-in-NotEscaping.ensures)

pub returns-in-MergedInto-clause-sends : goal.returns-in-MergedInto-clause-sends
unfolding fate_data
returns-in-MergedInto-clause-sends g c = rw c.in-MergedInto.is c.send_variant.ensures.sends

pub returns-in-DissolvedInto-clause-sends : goal.returns-in-DissolvedInto-clause-sends
unfolding fate_data
returns-in-DissolvedInto-clause-sends g c = rw c.in-DissolvedInto.is c.send_variant-in-DissolvedInto.ensures.sends
