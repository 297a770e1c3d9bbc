use Rattle.std.proofs.Common.{◌<◌, ◌≤◌, arith, length, refl}
use Rattle.std.specs.Prelude.{slice_set}
use Rattle.rc_ranges.proofs.JoinedLemmas.{done_all, done_more, done_same, done_some}
use Rattle.rc_ranges.proofs.WithinLemmas.{done_within}
use Rattle.rc_ranges.proofs.section.remove_from.Goals as goal
use Rattle.rc_ranges.proofs.section.remove_from.Goals.{in-Some+in_ok-remove_at, in_default}

pub returns-in_err-remove_at-clause-within : goal.returns-in_err-remove_at-clause-within
returns-in_err-remove_at-clause-within c =
    let old = c.loop-i.groups in
    let new = slice_set old c.loop-i.i c.remove_at.new.self in
    done_within c.args.id c.loop-i.i c.args.groups.now new
    (done_same c.args.id c.loop-i.i c.args.groups.now old new c.in-Some.group.now c.remove_at.new.self
    c.loop-i.invariant c.in-Some.ensures.value c.in_err-remove_at.ensures.err refl)

pub loop-i-preserved : goal.loop-i-preserved
loop-i-preserved c =
    let id = c.args.id in
    let i = c.loop-i.i in
    let parts = c.args.groups.now in
    let old = c.loop-i.groups in
    let below : i < length parts = omega (arith, c.loop-i-test.true, c.len-i-end.ensures) in
    elim c.match-get_mut.branch [
      | in-Some+in_ok-remove_at w ↦
          done_more id i parts old c.match-get_mut.groups w.in-Some.group.now w.remove_at.new.self below
          c.loop-i.invariant w.in-Some.ensures.value w.in_ok-remove_at.ensures.ok w.groups-is
      | in_default w ↦ done_some id i parts old below c.loop-i.invariant w.in_default.ensures.value
    ]

pub returns-clause-ok : goal.returns-clause-ok
returns-clause-ok c =
    let past : length c.args.groups.now ≤ c.loop-i.i = omega (arith, c.loop-i-test.false, c.len-i-end.ensures) in
    done_all c.args.id c.loop-i.i c.args.groups.now c.loop-i.groups past c.loop-i.invariant

pub returns-clause-within : goal.returns-clause-within
returns-clause-within c =
    done_within c.args.id c.loop-i.i c.args.groups.now c.loop-i.groups c.loop-i.invariant
