use Rattle.std.proofs.Common.{[], ◌∷◌, take}
use Rattle.rc_replay.specs.GivenRun.{event_of}
use Rattle.rc_replay.specs.inside.Closing.{Adds, IsNextOf}
use Rattle.rc_replay.proofs.paths.after.Given as goal

abbrev pub invariant-loop-at : goal.invariant-loop-at
invariant-loop-at l = Adds (IsNextOf l.table (take l.at-index l.here.keys) (event_of l.event ∷ [])) [] l.next.keys
