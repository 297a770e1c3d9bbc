-- Printing forms are sent part by part.
use Rattle.std.proofs.Common.{◌≡◌, ℕ, Bool, List, [], ◌∷◌, ◌++◌, None, Some, subst, sym, ap, ◌∙◌, append_assoc}
use Rattle.std.proofs.Common.{append-nil}
use Rattle.serde.specs.Event as event
use Rattle.serde.specs.Event.{Event, Log, Logs}
use Rattle.serde.specs.declared.name.Case.TheVariants.{AsIs}
use Rattle.serde_json.specs.Data.{Data, array, boolean, object, string}
use Rattle.serde_json.specs.Data.{Items, no_items, item, Members, no_members, member}
use Rattle.serde_json.specs.View.{items_of}
use Rattle.rc_show.specs.Showing.{add, number_data}
use Rattle.rc_show.specs.Sending.{LogsAll, Sends, SendsFields, SendsItems}
use Rattle.rc_show.specs.Sending.{events_of, fields_events, items_events}

none_sent : (log : Log) → LogsAll [] log log
none_sent None = tt
none_sent (Some before) = ap Some (sym (append-nil before))

pub one_sent : (e : Event) (old new : Log) → Logs old new e → LogsAll (e ∷ []) old new
one_sent e None new h = tt
one_sent e (Some before) new h = h

pub joined : (es fs : List Event) (old mid new : Log) → LogsAll es old mid → LogsAll fs mid new → LogsAll (es ++ fs) old new
joined es fs None mid new h k = tt
joined es fs (Some before) mid new h k = subst (λ log. LogsAll fs log new) h k ∙ ap Some (append_assoc before es fs)

pub number_sent : (n : ℕ) (old new : Log) → Logs old new (event.unsigned n) → Sends (number_data n) old new
unfolding Sends
number_sent n old new h = one_sent _ old new h

pub flag_sent : (b : Bool) (old new : Log) → Logs old new (event.boolean b) → Sends (boolean b) old new
unfolding Sends
flag_sent b old new h = one_sent _ old new h

pub text_sent : (text : List ℕ) (old new : Log) → Logs old new (event.text text) → Sends (string text) old new
unfolding Sends
text_sent text old new h = one_sent _ old new h

pub fields_events-add : (name : List ℕ) (d : Data) (fields : Members)
    → fields_events (add name d fields) ≡ fields_events fields ++ (event.field_key name AsIs ∷ events_of d)
unfolding add
fields_events-add name d no_members = ap (λ es. event.field_key name AsIs ∷ es) (append-nil (events_of d))
fields_events-add name d (member first e fields) =
    ap (λ es. event.field_key first AsIs ∷ (events_of e ++ es)) (fields_events-add name d fields)
    ∙ ap (λ es. event.field_key first AsIs ∷ es) (sym (append_assoc (events_of e) _ _))

pub no_fields_sent : (log : Log) → SendsFields no_members log log
unfolding SendsFields
no_fields_sent log = none_sent log

pub field_sent : (name : List ℕ) (d : Data) (fields : Members) (old mid named new : Log) → SendsFields fields old mid
    → Logs mid named (event.field_key name AsIs) → Sends d named new → SendsFields (add name d fields) old new
unfolding SendsFields Sends
field_sent name d fields old mid named new before key value =
    subst (λ es. LogsAll es old new) (sym (fields_events-add name d fields))
    (joined _ _ old mid new before (joined _ _ mid named new (one_sent _ mid named key) value))

pub object_sent : (fields : Members) (old first last new : Log) → Logs old first (event.map_begins None)
    → SendsFields fields first last → Logs last new event.map_ends → Sends (object fields) old new
unfolding SendsFields Sends
object_sent fields old first last new begun each ended =
    joined _ _ old first new (one_sent _ old first begun)
    (joined _ _ first last new each (one_sent _ last new ended))

pub no_items_sent : (log : Log) → SendsItems no_items log log
unfolding SendsItems
no_items_sent log = none_sent log

pub first_item_sent : (d : Data) (items : Items) (old mid new : Log) → Sends d old mid → SendsItems items mid new
    → SendsItems (item d items) old new
unfolding SendsItems Sends
first_item_sent d items old mid new first rest = joined _ _ old mid new first rest

items_events-push : (ds : List Data) (d : Data)
    → items_events (items_of (ds ++ d ∷ [])) ≡ items_events (items_of ds) ++ events_of d
items_events-push [] d = append-nil (events_of d)
items_events-push (e ∷ ds) d = ap (λ es. events_of e ++ es) (items_events-push ds d)
    ∙ sym (append_assoc (events_of e) _ _)

pub last_item_sent : (ds : List Data) (d : Data) (old mid new : Log) → SendsItems (items_of ds) old mid
    → Sends d mid new → SendsItems (items_of (ds ++ d ∷ [])) old new
unfolding SendsItems Sends
last_item_sent ds d old mid new before last =
    subst (λ es. LogsAll es old new) (sym (items_events-push ds d)) (joined _ _ old mid new before last)

pub array_sent : (items : Items) (old first last new : Log) → Logs old first (event.seq_begins None)
    → SendsItems items first last → Logs last new event.seq_ends → Sends (array items) old new
unfolding SendsItems Sends
array_sent items old first last new begun each ended =
    joined _ _ old first new (one_sent _ old first begun)
    (joined _ _ first last new each (one_sent _ last new ended))
