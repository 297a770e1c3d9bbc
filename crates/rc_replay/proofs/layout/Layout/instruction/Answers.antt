use Rattle.std.proofs.Common.{◌∙◌, sym}
use Rattle.std.proofs.lemmas.Result.{IfOk-weaker}
use Rattle.rc_replay.proofs.ValueLays.{lays_silent, lays_visible}
use Rattle.rc_replay.proofs.layout.Layout.instruction.Goals as goal

pub returns-then-is_silent_value : goal.returns-then-is_silent_value
returns-then-is_silent_value c = lays_silent (sym c.is_silent_value.ensures ∙ c.if-is_silent_value.true)

pub returns : goal.returns
returns c =
    IfOk-weaker c.add.result _ _
    (λ start l. lays_visible (sym c.is_silent_value.ensures ∙ c.if-is_silent_value.false) l) c.add.ensures
