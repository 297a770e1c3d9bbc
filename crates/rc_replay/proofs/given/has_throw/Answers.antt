use Rattle.std.proofs.Common.{◌≡◌, ◌∙◌, ◌||◌, List, [], ◌∷◌, map, refl, ap}
use Rattle.std.specs.List.{list_any}
use Rattle.rc_replay.specs.GivenRun.{event_of}
use Rattle.rc_replay.specs.declared.given.Event.{Event}
use Rattle.rc_runs.specs.Event.{is_throw}
use Rattle.rc_replay.proofs.given.has_throw.Goals as goal

any_throw : (events : List Event) → list_any (λ event. is_throw (event_of event)) events
    ≡ list_any is_throw (map event_of events)
any_throw [] = refl
any_throw (event ∷ events) = ap (λ b. is_throw (event_of event) || b) (any_throw events)

pub returns : goal.returns
returns c = c.any_throw.ensures
    ∙ ap (list_any (λ event. is_throw (event_of event))) c.as_slice.ensures
    ∙ any_throw c.args.run.now.events
