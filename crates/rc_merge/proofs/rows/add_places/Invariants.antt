use Rattle.std.proofs.Common.{◌≡◌, ◌++◌, map, take}
use Rattle.rc_merge.specs.Places.{name_of}
use Rattle.rc_merge.proofs.rows.add_places.Given as goal

abbrev pub invariant-loop-place : goal.invariant-loop-place
invariant-loop-place l = l.names ≡ l.fn.names ++ map (name_of l.env) (take l.place-index l.places)
