-- Spans, places in their three forms, and the types that have one place.
use Rattle.std.specs.Prelude.{ℕ, ◌==◌, false, List, [], ◌∷◌, Option, Some, None, option_and_then, option_map}
use Rattle.std.specs.Prelude.{if◌then◌else◌, codes}
use Rattle.serde_json.specs.Data.{Data}
use Rattle.serde_json.specs.Find.{as_str}
use Rattle.rc_names.specs.declared.span.Span.{Span}
use Rattle.rc_hir.specs.Model.{Effect, ParamPattern, Place, PlaceOrSpread, SpreadPattern}
use Rattle.rc_hir.specs.declared.place.Effect.TheVariants as effects
use Rattle.rc_hir.specs.declared.place.ParamPattern.TheVariants as param
use Rattle.rc_hir.specs.declared.place.PlaceOrSpread.TheVariants as arguments
use Rattle.rc_doc.specs.Numbers.{id_of}
use Rattle.rc_doc.specs.Reading.{◌>>=◌, array_len, content, field, flag_of, item_at, named, number_of, only, tag_of}
use Rattle.rc_doc.specs.Reading.{variant}

-- the array of a start and an end
unfoldable pub span_of : Data → Option Span
span_of d = if array_len d == 2 then (do
  start ← item_at number_of 0 d
  end ← item_at number_of 1 d
  Some (record { start = start; end = end })) else None

-- the effects, by their names
abbrev pub effect_named : List ℕ → Option Effect
effect_named = named (
    (codes "Unknown", effects.Unknown)
    ∷ (codes "Freeze", effects.Freeze)
    ∷ (codes "Read", effects.Read)
    ∷ (codes "Capture", effects.Capture)
    ∷ (codes "ConditionallyMutateIterator", effects.ConditionallyMutateIterator)
    ∷ (codes "ConditionallyMutate", effects.ConditionallyMutate)
    ∷ (codes "Mutate", effects.Mutate)
    ∷ (codes "Store", effects.Store)
    ∷ [])

-- an effect, given by its name
abbrev pub effect_of : Data → Option Effect
effect_of d = option_and_then effect_named (as_str d)

-- a place given by its identifier's number: it is read, isn't reactive, and has no span
abbrev pub short_place : Data → Option Place
short_place d = do
  identifier ← id_of d
  Some (record { identifier = identifier; effect = effects.Read; reactive = false; span = None })

-- a place given by its first three items: the identifier, the effect, and whether it is reactive
abbrev pub long_place : Option Span → Data → Option Place
long_place span d = do
  identifier ← item_at id_of 0 d
  effect ← item_at effect_of 1 d
  reactive ← item_at flag_of 2 d
  Some (record { identifier = identifier; effect = effect; reactive = reactive; span = span })

-- a place given by four items, of which the last is the span
abbrev pub spanned_place : Data → Option Place
spanned_place d = do
  span ← item_at span_of 3 d
  long_place (Some span) d

-- a place, in one of its three forms
unfoldable pub place_of : Data → Option Place
place_of d =
    if array_len d == 3 then long_place None d
    else (if array_len d == 4 then spanned_place d
    else short_place d)

-- a place after three dots
unfoldable pub spread_of : Data → Option SpreadPattern
spread_of d = do
  _ ← only (codes "place" ∷ []) d
  place ← field place_of (codes "place") d
  Some (record { place = place })

-- a parameter
unfoldable pub param_of : Data → Option ParamPattern
param_of d = do
  _ ← only (codes "k" ∷ codes "v" ∷ []) d
  name ← tag_of d
  variant (
      (codes "Place", option_map param.Place (content place_of d))
      ∷ (codes "Spread", option_map param.Spread (content spread_of d))
      ∷ []) name

-- an argument of a call
unfoldable pub argument_of : Data → Option PlaceOrSpread
argument_of d = do
  _ ← only (codes "k" ∷ codes "v" ∷ []) d
  name ← tag_of d
  variant (
      (codes "Place", option_map arguments.Place (content place_of d))
      ∷ (codes "Spread", option_map arguments.Spread (content spread_of d))
      ∷ []) name
