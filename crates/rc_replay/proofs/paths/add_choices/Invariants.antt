use Rattle.std.proofs.Common.{take}
use Rattle.rc_replay.specs.inside.Closing.{Adds}
use Rattle.rc_replay.specs.inside.Paths.{LeadsWithin, shown}
use Rattle.rc_replay.specs.inside.Positions.{Chooses}
use Rattle.rc_replay.proofs.paths.add_choices.Given as goal

abbrev pub invariant-loop-test : goal.invariant-loop-test
invariant-loop-test l = Adds (LeadsWithin (Chooses (take l.test-index l.choices)) l.last (shown l.wanted)) l.fn.next.keys
    l.next.keys
