use Rattle.std.proofs.Common.{◌≡◌, reverse, take}
use Rattle.rc_replay.specs.inside.Exits.{break_exit}
use Rattle.rc_replay.proofs.exits.break_label.Given as goal

abbrev pub invariant-loop-label : goal.invariant-loop-label
invariant-loop-label l = l.found ≡ break_exit (reverse (take l.label-index l.labels)) l.target
