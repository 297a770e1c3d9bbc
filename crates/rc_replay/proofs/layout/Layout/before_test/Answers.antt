use Rattle.std.proofs.Common.{◌≡◌, Some, option_map, ap, ◌∙◌, sym, subst}
use Rattle.std.proofs.lemmas.Result.{IfOk-weaker}
use Rattle.rc_replay.specs.inside.LaidBody.{LaysBefore}
use Rattle.rc_replay.proofs.LoopLays.{before_some}
use Rattle.rc_replay.proofs.layout.Layout.before_test.Goals as goal

pub returns-in-Some : goal.returns-in-Some
returns-in-Some c =
    rw c.in-Some.is (IfOk-weaker c.value.result _ _ (λ start l. before_some c.at.ensures l) c.value.ensures)
