-- Which places have an id in their range.
use Rattle.std.specs.Prelude.{◌&&◌, Bool, List, filter, map, nat_le, nat_lt, not}
use Rattle.rc_hir.specs.Model.{MutableRange, Place}
use Rattle.rc_names.specs.Numbers.{EvaluationOrder}
use Rattle.rc_ranges.specs.declared.ranged_place.RangedPlace.{RangedPlace}

-- the id is in the range: not before its start, and before its end
abbrev pub is_in_range : EvaluationOrder → MutableRange → Bool
is_in_range id range = nat_le range.start.0 id.0 && nat_lt id.0 range.end.0

-- the range of the place has the id
abbrev pub has_id : EvaluationOrder → RangedPlace → Bool
has_id id ranged = is_in_range id ranged.range

-- the places whose range has the id, and those whose range hasn't
abbrev pub places_at : EvaluationOrder → List RangedPlace → List Place
places_at id places = map (λ ranged. ranged.place) (filter (has_id id) places)

abbrev pub ranged_left : EvaluationOrder → List RangedPlace → List RangedPlace
ranged_left id places = filter (λ ranged. not (has_id id ranged)) places
