use Rattle.std.proofs.Common.{arith, sym, ◌∙◌, subst}
use Rattle.rc_build.proofs.CaseListLemmas.{DefaultsSoFar, default_again, default_next}
use Rattle.rc_build.proofs.switches.has_one_default.Goals as goal

pub loop-case-preserved : goal.loop-case-preserved
loop-case-preserved c =
    let next = default_next c.loop-case.case-index _ c.as_slice-case-items.ensures (omega arith) c.loop-case.invariant
    (sym c.repeats_default.ensures ∙ c.if-repeats_default.false) in
    subst (DefaultsSoFar _) (sym c.finds_default-found.ensures) next

pub returns-then-repeats_default : goal.returns-then-repeats_default
returns-then-repeats_default c =
    sym (default_again c.loop-case.case-index _ c.as_slice-case-items.ensures (omega arith) c.loop-case.invariant
    (sym c.repeats_default.ensures ∙ c.if-repeats_default.true))
