-- The run that a given list of events with its end represents.
use Rattle.std.specs.Prelude.{List, map}
use Rattle.rc_replay.specs.declared.given.Event.{Event as GivenEvent}
use Rattle.rc_replay.specs.declared.given.Event.TheVariants as given
use Rattle.rc_replay.specs.declared.given.End.{End as GivenEnd}
use Rattle.rc_replay.specs.declared.given.End.TheVariants as ends
use Rattle.rc_replay.specs.declared.given.GivenRun.{GivenRun}
use Rattle.rc_runs.specs.Event.{Event, Did, Arm, Chose, Threw, End, Open, Returned, Thrown}

-- the event of runs that a given one represents
abbrev pub event_of : GivenEvent → Event
event_of (given.Did value) = Did value
event_of (given.Arm taken) = Arm taken
event_of (given.Chose test) = Chose test
event_of given.Threw = Threw

-- the events of a given run
abbrev pub events_of : GivenRun → List Event
events_of run = map event_of run.events

-- the end of runs that a given one represents
abbrev pub run_end : GivenEnd → End
run_end ends.Open = Open
run_end (ends.Returned place) = Returned place
run_end (ends.Thrown place) = Thrown place

-- the end of a given run
abbrev pub end_of : GivenRun → End
end_of run = run_end run.end
