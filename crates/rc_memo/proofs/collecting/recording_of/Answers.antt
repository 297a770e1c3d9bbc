use Rattle.std.proofs.Common.{map}
use Rattle.rc_memo.proofs.TellsLemmas.{all_recorded, params_recorded}
use Rattle.rc_memo.specs.Record.{param_name}
use Rattle.rc_memo.specs.TreeEvents.{events_in}
use Rattle.rc_memo.proofs.collecting.recording_of.Goals as goal

pub returns : goal.returns
returns c =
    let env = c.args.env.now in
    let func = c.args.func.now in
    all_recorded env (map (param_name env) func.params) (events_in env func.body) c.add_params.new.recording
    c.add_body.new.recording
    (params_recorded env func.params c.in_ok-recording.recording c.add_params.new.recording
    c.in_ok-recording.ensures c.in_ok-add_params.ensures) c.in_ok-add_body.ensures
