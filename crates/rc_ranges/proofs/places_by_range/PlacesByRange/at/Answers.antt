use Rattle.std.proofs.Common.{◌≡◌, ◌∙◌, ap}
use Rattle.std.proofs.lemmas.Result.{IfOk-weaker}
use Rattle.rc_ranges.proofs.LeftLemmas.{found_are}
use Rattle.rc_ranges.specs.Ranges.{places_at}
use Rattle.rc_ranges.specs.inside.Entries.{indices_at, joined, places_with}
use Rattle.rc_ranges.proofs.places_by_range.PlacesByRange.at.Goals as goal

pub returns : goal.returns
returns c =
    let places = c.self.inside.places in
    let entries = joined c.self.inside.sections in
    let now = c.as_slice-2.result.now in
    let value = c.args.self.now in
    let given = c.in_ok-indices.ensures ∙ ap (λ w. indices_at c.args.id (joined w)) c.as_slice.ensures in
    let sort = c.sort_unstable.ensures in
    let all = found_are places c.args.id entries value c.in_ok-indices.indices.items c.sort_unstable.new.self.items now
    c.self.view_is given sort.permutation sort.sorted c.as_slice-2.ensures.value in
    IfOk-weaker c.places_with.result (λ found. found ≡ places_with places now)
    (λ found. found ≡ places_at c.args.id value) (λ found is. is ∙ all) c.places_with.ensures
