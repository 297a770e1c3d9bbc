use Rattle.std.proofs.Common.{◌∙◌, ◌++◌, ap, append-nil, sym}
use Rattle.std.specs.Option.{option_to_list}
use Rattle.rc_ranges.proofs.LeftLemmas.{with_more}
use Rattle.rc_ranges.proofs.places_by_range.places_with.Goals as goal
use Rattle.rc_ranges.proofs.places_by_range.places_with.Goals.{in-Some+in_ok-push, in_default}

pub loop-index-preserved : goal.loop-index-preserved
loop-index-preserved c =
    let found = c.loop-index.found in
    let more = with_more c.args.places.now c.args.indices.now c.loop-index.index-index found c.loop-index-test.true
    c.loop-index.invariant in
    elim c.match-get.branch [
      | in-Some+in_ok-push w ↦ w.found-is ∙ w.in_ok-push.ensures.ok
          ∙ ap (λ w. found ++ option_to_list w) w.in-Some.ensures ∙ more
      | in_default w ↦ w.found-is ∙ sym (append-nil found)
          ∙ ap (λ w. found ++ option_to_list w) w.in_default.ensures ∙ more
    ]
