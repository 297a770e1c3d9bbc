use Rattle.rc_show.specs.ShownKinds.{value_data}
use Rattle.rc_show.proofs.PlainForms.{plain_value}
use Rattle.rc_show.proofs.PlainValues.{plain_has_no_float}
use Rattle.rc_show.proofs.instruction.value_json.Goals as goal

pub returns-clause-no_float : goal.returns-clause-no_float
returns-clause-no_float c =
    let value = c.args.value.now in
    plain_has_no_float (value_data value) (plain_value value)
