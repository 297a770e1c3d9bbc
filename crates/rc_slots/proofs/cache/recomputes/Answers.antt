use Rattle.std.proofs.Common.{◌∙◌, ap}
use Rattle.std.specs.Prelude.{not}
use Rattle.rc_slots.proofs.ItemLemmas.{filled_recomputes}
use Rattle.rc_slots.proofs.cache.recomputes.Goals as goal

pub returns : goal.returns
returns c =
    let e = filled_recomputes c.args.entry.now c.args.slots.now c.args.given.now c.requires.room c.requires.fits cc in
    ap not (cc (c.have_values.ensures, c.split_at.ensures.front, c.as_slice.ensures)) ∙ e
