use Rattle.std.proofs.Common.{drop, length, map, min}
use Rattle.rc_replay.specs.GivenRun.{end_of, event_of, events_of}
use Rattle.rc_replay.specs.inside.Closing.{Following}
use Rattle.rc_replay.proofs.paths.follows.Given as goal

abbrev pub invariant-loop-event : goal.invariant-loop-event
invariant-loop-event l = Following l.table (min l.start (length l.table)) (events_of l.run) l.here.keys
    (map event_of (drop l.event-index l.run.events)) (end_of l.run)
