use Rattle.std.proofs.Common.{◌≡◌, ◌++◌, take}
use Rattle.rc_hir.proofs.places.Places.append.Given as goal

-- the places so far come after the old ones
abbrev pub invariant-loop-place : goal.invariant-loop-place
invariant-loop-place l = l.self ≡ l.initial.self ++ take l.place-index l.place-items
