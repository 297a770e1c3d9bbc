use Rattle.rc_merge.proofs.MetUsesLemmas.{next_place}
use Rattle.rc_merge.proofs.last_uses.add_places.Goals as goal

pub loop-place-preserved : goal.loop-place-preserved
loop-place-preserved c = next_place c.args.env.now c.args.id c.args.places.now c.loop-place.place-index _
    c.declaration_of.result c.loop-place.uses c.put_later.new.ids _ c.loop-place-test.true c.declaration_of.ensures
    c.in_ok-put_later.ensures c.loop-place.invariant
