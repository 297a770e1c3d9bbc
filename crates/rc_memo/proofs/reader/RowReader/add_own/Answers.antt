use Rattle.rc_memo.proofs.RowEventsLemmas.{parts-Instruction}
use Rattle.rc_memo.proofs.reader.RowReader.add_own.Goals as goal

pub returns-in-Instruction : goal.returns-in-Instruction
returns-in-Instruction c =
    rw (c.in-Instruction.is, parts-Instruction c.args.self.now.env.now c.in-Instruction.value) c.add_instruction.ensures
