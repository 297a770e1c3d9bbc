-- The events that a printing form is sent as. An object or a list doesn't say how long it is.
use Rattle.std.specs.Prelude.{◌≡◌, List, [], ◌∷◌, ◌++◌, None, Some, ⊤}
use Rattle.serde.specs.Event as event
use Rattle.serde.specs.Event.{Event, Log}
use Rattle.serde.specs.declared.name.Case.TheVariants.{AsIs}
use Rattle.serde_json.specs.Data.{Data, null, boolean, number, string, array, object}
use Rattle.serde_json.specs.Data.{Items, no_items, item, Members, no_members, member}
use Rattle.serde_json.specs.Events.{number_event}

abbrev mutual
  -- the events of a value
  pub events_of : Data → List Event
  events_of null = event.nothing ∷ []
  events_of (boolean b) = event.boolean b ∷ []
  events_of (number n) = number_event n ∷ []
  events_of (string text) = event.text text ∷ []
  events_of (array items) = event.seq_begins None ∷ (items_events items ++ event.seq_ends ∷ [])
  events_of (object fields) = event.map_begins None ∷ (fields_events fields ++ event.map_ends ∷ [])

  pub items_events : Items → List Event
  items_events no_items = []
  items_events (item d items) = events_of d ++ items_events items

  pub fields_events : Members → List Event
  fields_events no_members = []
  fields_events (member name d fields) = event.field_key name AsIs ∷ (events_of d ++ fields_events fields)

-- where the events so far are known, they grow by these
abbrev pub LogsAll : List Event → Log → Log → Type 0
LogsAll events None new = ⊤
LogsAll events (Some before) new = new ≡ Some (before ++ events)

-- a value is sent
unfoldable pub Sends : Data → Log → Log → Type 0
Sends d = LogsAll (events_of d)

-- the items of an array are sent
unfoldable pub SendsItems : Items → Log → Log → Type 0
SendsItems items = LogsAll (items_events items)

-- the fields of an object are sent
unfoldable pub SendsFields : Members → Log → Log → Type 0
SendsFields fields = LogsAll (fields_events fields)
