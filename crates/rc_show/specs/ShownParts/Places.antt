-- The printing form of spans and of places, in the shortest of their forms.
use Rattle.std.specs.Prelude.{ℕ, ◌&&◌, Bool, true, false, not, List, Option, None, Some, codes, if◌then◌else◌, is_none}
use Rattle.serde_json.specs.Data.{Data, array, boolean, item, Items, no_items, no_members, object, string}
use Rattle.rc_names.specs.declared.span.Span.{Span}
use Rattle.rc_hir.specs.Model.{Effect, Place, PlaceOrSpread, SpreadPattern}
use Rattle.rc_hir.specs.declared.place.Effect.TheVariants as effects
use Rattle.rc_hir.specs.declared.place.PlaceOrSpread.TheVariants as arguments
use Rattle.rc_show.specs.Showing.{◌▸◌, add, number_data, variant_data}

-- the array of a start and an end
abbrev pub span_data : Span → Data
span_data span = array (item (number_data span.start) (item (number_data span.end) no_items))

-- the name of an effect
abbrev pub effect_name : Effect → List ℕ
effect_name effects.Unknown = codes "Unknown"
effect_name effects.Freeze = codes "Freeze"
effect_name effects.Read = codes "Read"
effect_name effects.Capture = codes "Capture"
effect_name effects.ConditionallyMutateIterator = codes "ConditionallyMutateIterator"
effect_name effects.ConditionallyMutate = codes "ConditionallyMutate"
effect_name effects.Mutate = codes "Mutate"
effect_name effects.Store = codes "Store"

-- the effect is Read
abbrev pub is_read : Effect → Bool
is_read effects.Read = true
is_read effects.Unknown = false
is_read effects.Freeze = false
is_read effects.Capture = false
is_read effects.ConditionallyMutateIterator = false
is_read effects.ConditionallyMutate = false
is_read effects.Mutate = false
is_read effects.Store = false

-- the place is determined by its identifier's number
abbrev pub is_short : Place → Bool
is_short place = is_read place.effect && (not place.reactive && is_none place.span)

-- the span as the last item, if there is one
abbrev pub span_items : Option Span → Items
span_items None = no_items
span_items (Some span) = item (span_data span) no_items

-- the identifier, the effect, whether it is reactive, and the span if there is one
abbrev pub long_form : Place → Data
long_form place =
    array (item (number_data place.identifier.0) (item (string (effect_name place.effect))
    (item (boolean place.reactive) (span_items place.span))))

-- the shortest form that determines the place
unfoldable pub place_data : Place → Data
place_data place = if is_short place then number_data place.identifier.0 else long_form place

-- a place after three dots
unfoldable pub spread_data : SpreadPattern → Data
spread_data spread = object (no_members ▸ add (codes "place") (place_data spread.place))

-- an argument of a call
unfoldable pub argument_data : PlaceOrSpread → Data
argument_data (arguments.Place place) = variant_data (codes "Place") (place_data place)
argument_data (arguments.Spread spread) = variant_data (codes "Spread") (spread_data spread)
