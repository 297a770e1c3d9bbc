use Rattle.std.proofs.Common.{◌∙◌}
use Rattle.rc_early.proofs.GrowsLemmas.{grows_on}
use Rattle.rc_early.proofs.RoomLemmas.{fits_next, numbered_next, returns_next}
use Rattle.rc_early.proofs.entries.add_early_returns.Goals as goal

pub returns-in_err-add_early_return-clause-grows : goal.returns-in_err-add_early_return-clause-grows
returns-in_err-add_early_return-clause-grows c = grows_on _ _ _ c.loop-early.invariant.grows
    c.add_early_return.ensures.grows

pub loop-early-preserved : goal.loop-early-preserved
loop-early-preserved c =
    let done = c.in_ok-add_early_return.ensures.ok in
    let loop = c.loop-early.invariant in
    record {
      entries = loop.entries ∙ returns_next c.args.made.now c.loop-early.early-index _ c.loop-early-test.true
          c.loop-early.env c.add_early_return.new.env done;
      numbered = numbered_next c.args.made.now c.loop-early.early-index _ c.loop-early-test.true c.loop-early.env
          c.add_early_return.new.env done loop.numbered;
      room = fits_next c.args.made.now c.loop-early.early-index _ c.loop-early-test.true c.loop-early.env
          c.add_early_return.new.env done loop.room;
      grows = grows_on _ _ _ loop.grows c.add_early_return.ensures.grows;
    }
