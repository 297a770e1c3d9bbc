use Rattle.std.proofs.Common.{◌∙◌, sym, ap}
use Rattle.std.proofs.lemmas.Result.{IfOk-weaker}
use Rattle.rc_replay.specs.inside.Exits.{exit}
use Rattle.rc_replay.specs.inside.LaidExits.{exits_of}
use Rattle.rc_replay.specs.inside.Lowered.{break_completion}
use Rattle.rc_replay.proofs.StatementLays.{lays_early_return, lays_break}
use Rattle.rc_replay.proofs.layout.Layout.break_to.Goals as goal

pub returns-in-Some : goal.returns-in-Some
returns-in-Some c =
    let early = sym c.returned_by.ensures ∙ c.in-Some.is in
    IfOk-weaker c.add.result _ _ (λ start l. lays_early_return c.args.stored c.args.label early l) c.add.ensures

pub returns-in-None : goal.returns-in-None
returns-in-None c =
    let completion = break_completion c.args.label c.args.target c.args.kind in
    lays_break c.args.stored c.args.label (sym c.returned_by.ensures ∙ c.in-None.is)
    (c.of_break.ensures ∙ ap (λ labels. exit (exits_of c.args.exits labels) completion) c.as_slice.ensures)
