use Rattle.std.proofs.Common.{◌∙◌, ap, arith, get_or, length, true}
use Rattle.rc_escape.specs.inside.WalkPlaces.{is_set}
use Rattle.rc_escape.proofs.PlaceLemmas.{length-set}
use Rattle.rc_escape.proofs.UsersLemmas.{entry_there, set_more}
use Rattle.rc_escape.proofs.memo_walk.set_all.Goals as goal

pub loop-place-preserved : goal.loop-place-preserved
loop-place-preserved c =
    let now = c.loop-place.bits in
    let places = c.args.places.now in
    let i = c.loop-place.place-index in
    let place = get_or places i 0 in
    let before = c.loop-place.invariant in record {
      lengths = ap length c.set_bit.ensures ∙ length-set now place true ∙ before.lengths;
      values = λ other lt. ap (λ w. is_set w other) c.set_bit.ensures
          ∙ set_more c.args.bits.now now places i place other (entry_there places i 0 c.loop-place-test.true)
          (omega (arith, lt, before.lengths)) (before.values other lt);
    }
