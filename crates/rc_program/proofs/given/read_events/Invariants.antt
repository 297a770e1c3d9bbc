use Rattle.std.proofs.Common.{◌≡◌, ◌++◌, drop, option_map}
use Rattle.serde_json.specs.View.{items_view}
use Rattle.rc_doc.specs.Reading.{all_items}
use Rattle.rc_program.specs.Given.{given_event_of}
use Rattle.rc_program.proofs.given.read_events.Given as goal

-- the events so far and those that are still to be read are all events
abbrev pub invariant-loop-value : goal.invariant-loop-value
invariant-loop-value l =
    option_map (λ rest. l.events ++ rest) (all_items given_event_of (items_view (drop l.value-index l.values)))
    ≡ all_items given_event_of (items_view l.values)
