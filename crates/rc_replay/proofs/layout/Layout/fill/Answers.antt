use Rattle.std.proofs.Common.{◌∙◌, sym, ap}
use Rattle.std.specs.Option.{option_copied_mut}
use Rattle.std.proofs.lemmas.List.{set_past}
use Rattle.rc_replay.specs.declared.positions.Position.TheVariants as laid
use Rattle.rc_replay.proofs.LoopLays.{get_none}
use Rattle.rc_replay.proofs.layout.Layout.fill.Goals as goal

pub returns-in_default-clause-positions : goal.returns-in_default-clause-positions
returns-in_default-clause-positions c =
    let none = sym c.get_mut.ensures.value ∙ ap option_copied_mut c.in_default.is in
    sym (set_past c.args.self.now.positions c.args.number (laid.Passes c.args.next)
    (get_none c.args.self.now.positions c.args.number none))
