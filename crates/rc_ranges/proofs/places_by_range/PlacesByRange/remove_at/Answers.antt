use Rattle.std.proofs.Common.{◌≡◌}
use Rattle.std.proofs.lemmas.Result.{IfOk-weaker}
use Rattle.rc_ranges.proofs.LeftLemmas.{ranged_are}
use Rattle.rc_ranges.specs.Ranges.{ranged_left}
use Rattle.rc_ranges.specs.inside.Entries.{entries_left, joined, places_left}
use Rattle.rc_ranges.proofs.places_by_range.PlacesByRange.remove_at.Goals as goal

pub returns : goal.returns
returns c =
    let places = c.self.inside.places in
    let old = joined c.self.inside.sections in
    let new = joined c.remove_from.new.sections in
    let value = c.args.self.now in
    IfOk-weaker c.remove_from.result (λ _. new ≡ entries_left c.args.id old)
    (λ _. places_left places new ≡ ranged_left c.args.id value)
    (λ _ is. ranged_are places c.args.id old new value c.self.view_is is) c.remove_from.ensures
