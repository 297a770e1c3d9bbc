use Rattle.std.proofs.Common.{◌∙◌}
use Rattle.rc_ranges.proofs.GivenLemmas.{given_are}
use Rattle.rc_ranges.specs.inside.Entries.{joined}
use Rattle.rc_ranges.proofs.places_by_range.PlacesByRange.new.Goals as goal

pub returns : goal.returns
returns c =
    given_are c.args.places.now c.in_ok-places_of.field-0 c.in_ok-entries.entries.items
    c.sort_unstable_by_key.new.self.items (joined c.in_ok-sections_of.field-0) c.in_ok-places_of.ensures
    c.in_ok-entries.ensures c.sort_unstable_by_key.ensures.permutation
    (c.in_ok-sections_of.ensures ∙ c.as_slice.ensures.value)
