-- The causes are those that the steps tell.
use Rattle.rc_flow.proofs.AlwaysInvalidating.CausesLemmas.{causes_told, each_caused}
use Rattle.rc_flow.proofs.always_invalidating.invalidating_causes.Goals as goal

pub returns-clause-told : goal.returns-clause-told
returns-clause-told c = causes_told c.args.env.now c.args.func.now.body c.in_ok-marks.marks c.in_ok-marks.ensures

pub returns-clause-each : goal.returns-clause-each
returns-clause-each c = each_caused c.args.env.now c.args.func.now.body c.in_ok-marks.marks c.in_ok-marks.ensures
