use Rattle.rc_flat.specs.ShownFlat.{statement_data}
use Rattle.rc_answer.proofs.view.statement.StatementViewShow.send.Goals as goal

pub returns-in-Instruction-clause-sends : goal.returns-in-Instruction-clause-sends
unfolding statement_data
returns-in-Instruction-clause-sends g c = rw (← c.self.view_is, c.in-Instruction.is) c.send_variant.ensures.sends

pub returns-in-PrunedScope-clause-sends : goal.returns-in-PrunedScope-clause-sends
unfolding statement_data
returns-in-PrunedScope-clause-sends g c =
    rw (← c.self.view_is, c.in-PrunedScope.is) c.send_part_variant-in-PrunedScope.ensures.sends
