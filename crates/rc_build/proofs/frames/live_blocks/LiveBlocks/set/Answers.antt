use Rattle.std.proofs.Common.{◌∙◌, sym, ap, slice_get, if◌then◌else◌, Some}
use Rattle.rc_runs.specs.Frames.{is_block}
use Rattle.rc_build.proofs.BitsLemmas.{bit_set}
use Rattle.rc_build.proofs.frames.live_blocks.LiveBlocks.set.Goals as goal

pub returns-in-Some-position_from-clause-told : goal.returns-in-Some-position_from-clause-told
returns-in-Some-position_from-clause-told c = λ told tell key place at.
    let live = c.args.self.now in
    ap (λ bits. slice_get bits place) c.set.ensures
    ∙ bit_set live.blocks.now live.bits told tell c.in-Some.block c.in-Some-position_from.place
    (sym c.in-Some-position_from.ensures) c.args.live key place at
    ∙ ap (λ b. Some (if is_block b key then c.args.live else told key)) (sym c.in-Some.is)
