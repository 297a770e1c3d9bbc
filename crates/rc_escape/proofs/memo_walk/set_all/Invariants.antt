use Rattle.std.proofs.Common.{◌≡◌, ◌<◌, ℕ, length, take}
use Rattle.std.specs.Prelude.{◌||◌, nat_eq}
use Rattle.std.specs.List.{list_any}
use Rattle.rc_escape.specs.inside.WalkPlaces.{is_set}
use Rattle.rc_escape.proofs.memo_walk.set_all.Given as goal

abbrev pub invariant-loop-place : goal.invariant-loop-place
invariant-loop-place l = record {
  lengths : length l.bits ≡ length l.fn.bits;
  values : (place : ℕ) → place < length l.fn.bits
      → is_set l.bits place ≡ (list_any (nat_eq place) (take l.place-index l.places) || is_set l.fn.bits place);
}
