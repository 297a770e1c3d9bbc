-- What is left of places, as entries in another order.
use Rattle.std.specs.Prelude.{◌+◌, ℕ, Bool, List, [], ◌∷◌, Option, filter, map, nat_le, not, slice_get}
use Rattle.std.specs.Prelude.{if◌then◌else◌}
use Rattle.std.specs.List.{flat_map}
use Rattle.std.specs.Option.{option_map, option_to_list}
use Rattle.rc_hir.specs.Model.{Place}
use Rattle.rc_names.specs.Numbers.{EvaluationOrder}
use Rattle.rc_ranges.specs.Ranges.{is_in_range}
use Rattle.rc_ranges.specs.declared.entry.Entry.{Entry}
use Rattle.rc_ranges.specs.declared.ranged_place.RangedPlace.{RangedPlace}

-- the range of the entry has the id
abbrev pub entry_has : EvaluationOrder → Entry → Bool
entry_has id entry = is_in_range id entry.range

-- the indices of the entries whose range has the id, and the entries whose range hasn't
abbrev pub indices_at : EvaluationOrder → List Entry → List ℕ
indices_at id entries = map (λ entry. entry.index) (filter (entry_has id) entries)

abbrev pub entries_left : EvaluationOrder → List Entry → List Entry
entries_left id entries = filter (λ entry. not (entry_has id entry)) entries

-- the entries of all groups, or of all sections
abbrev pub joined : List (List Entry) → List Entry
joined parts = flat_map (λ part. part) parts

-- the entries of places, of which the first has this index
abbrev pub entries_since : ℕ → List RangedPlace → List Entry
entries_since index [] = []
entries_since index (ranged ∷ places) =
    record { range = ranged.range; index = index } ∷ entries_since (index + 1) places

-- the entry before the first one whose index isn't smaller
unfoldable pub put_in_order : Entry → List Entry → List Entry
put_in_order entry [] = entry ∷ []
put_in_order entry (first ∷ others) =
    if nat_le entry.index first.index then entry ∷ first ∷ others else first ∷ put_in_order entry others

-- the entries in the order of their indices
unfoldable pub in_order : List Entry → List Entry
in_order [] = []
in_order (entry ∷ entries) = put_in_order entry (in_order entries)

-- the place of an entry, with the range of the entry
abbrev pub ranged_of : List Place → Entry → Option RangedPlace
ranged_of places entry =
    option_map (λ place. record { place = place; range = entry.range }) (slice_get places entry.index)

-- the places of the entries, in the order of the places
unfoldable pub places_left : List Place → List Entry → List RangedPlace
places_left places entries = flat_map (λ entry. option_to_list (ranged_of places entry)) (in_order entries)

-- the places at these indices
abbrev pub places_with : List Place → List ℕ → List Place
places_with places indices = flat_map (λ index. option_to_list (slice_get places index)) indices
