use Rattle.std.proofs.Common.{take}
use Rattle.rc_replay.specs.GivenRun.{run_end}
use Rattle.rc_replay.specs.inside.Closing.{MayEndAmong}
use Rattle.rc_replay.proofs.paths.may_end.Given as goal

abbrev pub invariant-loop-at : goal.invariant-loop-at
invariant-loop-at l = MayEndAmong l.table (take l.at-index l.here.keys) (run_end l.end) → ⊥
