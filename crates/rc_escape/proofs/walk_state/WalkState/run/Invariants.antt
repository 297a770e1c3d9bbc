use Rattle.std.proofs.Common.{reverse}
use Rattle.rc_escape.specs.inside.WalkFrames.{Continues, FitsRecord}
use Rattle.rc_escape.specs.inside.WalkPlaces.{progress}
use Rattle.rc_escape.specs.inside.WalkWork.{work}
use Rattle.rc_escape.proofs.walk_state.WalkState.run.Given as goal

-- each way in which the frames now end the walk is one in which those at the start end it
abbrev pub invariant-loop-frame : goal.invariant-loop-frame
invariant-loop-frame l = record {
  fits : FitsRecord l.rows l.self;
  continues : Continues l.rows (reverse l.stack) (progress l.rows l.self) (reverse l.fn.stack)
      (progress l.rows l.fn.self);
}

abbrev pub decreases-loop-frame : goal.decreases-loop-frame
decreases-loop-frame l = work l.rows l.self l.stack
