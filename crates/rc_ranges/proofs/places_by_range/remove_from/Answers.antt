use Rattle.std.proofs.Common.{◌<◌, ◌≤◌, arith, length}
use Rattle.rc_ranges.proofs.JoinedLemmas.{done_all, done_more, done_some}
use Rattle.rc_ranges.proofs.places_by_range.remove_from.Goals as goal
use Rattle.rc_ranges.proofs.places_by_range.remove_from.Goals.{in-Some+in_ok-remove_at, in_default}

pub loop-i-preserved : goal.loop-i-preserved
loop-i-preserved c =
    let id = c.args.id in
    let i = c.loop-i.i in
    let parts = c.args.sections.now in
    let old = c.loop-i.sections in
    let below : i < length parts = omega (arith, c.loop-i-test.true, c.len-i-end.ensures) in
    elim c.match-get_mut.branch [
      | in-Some+in_ok-remove_at w ↦
          done_more id i parts old c.match-get_mut.sections w.in-Some.section.now w.remove_at.new.self below
          c.loop-i.invariant w.in-Some.ensures.value w.in_ok-remove_at.ensures w.sections-is
      | in_default w ↦ done_some id i parts old below c.loop-i.invariant w.in_default.ensures.value
    ]

pub returns : goal.returns
returns c =
    let past : length c.args.sections.now ≤ c.loop-i.i = omega (arith, c.loop-i-test.false, c.len-i-end.ensures) in
    done_all c.args.id c.loop-i.i c.args.sections.now c.loop-i.sections past c.loop-i.invariant
