use Rattle.std.proofs.Common.{◌∷◌, [], ◌++◌}
use Rattle.rc_memo.proofs.TellsLemmas.{tells_next}
use Rattle.rc_memo.specs.RowEvents.{escape_events, load_events, own_events}
use Rattle.rc_memo.specs.inside.Recording.{instruction_row}
use Rattle.rc_memo.proofs.reader.RowReader.add_instruction.Goals as goal

pub returns : goal.returns
unfolding own_events
returns c =
    let env = c.args.self.now.env.now in
    let value = c.args.value.now in
    let row = instruction_row env c.args.id c.args.target value in
    tells_next env (row ∷ []) (load_events env c.args.target value ++ escape_events env value) c.args.recording.now
    c.add_recorded_row.new.recording c.add_escapes.new.recording c.in_ok-add_recorded_row.ensures
    (tells_next env (load_events env c.args.target value) (escape_events env value) c.add_recorded_row.new.recording
    c.add_load.new.recording c.add_escapes.new.recording c.in_ok-add_load.ensures c.in_ok-add_escapes.ensures)
