-- The number of steps of a run from a position on, by which the lemmas from positions to bodies recur.
use Rattle.std.proofs.Common.{◌≡◌, ℕ, suc, ◌<◌, List, Some, refl, subst}
use Rattle.rc_runs.specs.Event.{Event, End}
use Rattle.rc_replay.specs.inside.Positions.{Position, Table, Follows, FollowsAt, rests, passes, computes, test_holds}
use Rattle.rc_replay.specs.inside.Positions.{test_fails, chooses, goes_on, throws, ends, arrives, enters}

module _ {table : Table} where
  unfoldable mutual
    pub size : {position : Position} {events : List Event} {end : End} → Follows table position events end → ℕ
    size rests = 0
    size (passes run) = suc (size_at run)
    size (computes run) = suc (size_at run)
    size (test_holds run) = suc (size_at run)
    size (test_fails run) = suc (size_at run)
    size (chooses among run) = suc (size_at run)
    size (goes_on run) = suc (size_at run)
    size (throws run) = suc (size_at run)
    size ends = 0

    pub size_at : {number : ℕ} {events : List Event} {end : End} → FollowsAt table number events end → ℕ
    size_at arrives = 0
    size_at (enters found run) = size run

  -- a run from the number of a position is one from the position
  pub entered : {number : ℕ} {position : Position} {events : List Event} {end : End} {bound : ℕ}
      → table number ≡ Some position → (run : FollowsAt table number events end) → size_at run < bound
      → (same : Follows table position events end) × (size same < bound)
  unfolding size size_at
  entered e arrives small = (rests, small)
  entered {position = position} {events} {end} {bound} e (enters {position = other} found run) small =
      let same : other ≡ position = cc in
      subst (λ p. (same : Follows table p events end) × (size same < bound)) same (run, small)

  -- a run from an equal number
  pub from_equal : {number other : ℕ} {events : List Event} {end : End} {bound : ℕ} → number ≡ other
      → (run : FollowsAt table number events end) → size_at run < bound
      → (same : FollowsAt table other events end) × (size_at same < bound)
  from_equal {events = events} {end} {bound} e run small =
      subst (λ n. (same : FollowsAt table n events end) × (size_at same < bound)) e (run, small)
