use Rattle.rc_memo.proofs.TellsLemmas.{nothing_recorded}
use Rattle.rc_memo.proofs.reader.RowReader.no_recording.Goals as goal

pub returns : goal.returns
returns c = nothing_recorded c.args.self.now.env.now _ c.in_ok-with_capacity.ensures c.in_ok-with_capacity-2.ensures
    c.in_ok-with_capacity-3.ensures c.new.ensures c.new-2.ensures
