use Rattle.std.proofs.Common.{◌≡◌, ◌∙◌, ◌≤◌, Some, slice_get, sym, ap, arith}
use Rattle.std.specs.Option.{option_copied_mut}
use denote.Param.Weighed.{most}
use Rattle.rc_tree.proofs.DropLemmas.{most_get, most_set}
use Rattle.rc_tree.proofs.terminal.ReactiveSwitchCase.TheLaws as switch_case
use Rattle.rc_tree.proofs.drops.take_cases.Goals.{in-Some, in_default}
use Rattle.rc_tree.proofs.drops.take_cases.Goals as goal

pub loop-i-preserved : goal.loop-i-preserved
loop-i-preserved c =
    let all = c.loop-i.cases in
    let i = c.loop-i.i in
    elim c.match-get_mut.branch [
      | in-Some w ↦
          let x = w.in-Some.case.now in
          let found : slice_get all i ≡ Some x = sym c.get_mut.ensures.value ∙ ap option_copied_mut w.in-Some.is in
          let within : switch_case.the_size x ≤ most switch_case.the_size all =
          most_get switch_case.the_size all i x found in
          record {
            rest = rw w.cases-is (omega (
              arith,
              c.loop-i.invariant.rest,
              most_set switch_case.the_size all i x w.take_case.new.case found w.take_case.ensures.rest,
            ));
            taken = λ n h k. rw w.inside-is
                (w.take_case.ensures.taken n (omega (arith, h, c.loop-i.invariant.rest, within))
                (c.loop-i.invariant.taken n h k));
          }
      | in_default w ↦ rw (w.cases-is, w.inside-is) c.loop-i.invariant
    ]
