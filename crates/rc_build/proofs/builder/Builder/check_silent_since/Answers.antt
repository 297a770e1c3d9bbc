use Rattle.std.proofs.Common.{sym, ◌∙◌, arith}
use Rattle.rc_build.proofs.BuildsLemmas.{passed_on}
use Rattle.rc_build.proofs.SilentValueLemmas.{all_checked, among_at, checked_at}
use Rattle.rc_build.proofs.builder.Builder.check_silent_since.Goals as goal

pub check_arm_block-requires : goal.check_arm_block-requires
check_arm_block-requires c = record {
  referenced = c.requires.referenced c.in-Some.key
      (among_at c.args.self.now.marks.used c.loop-place.place c.in-Some.key
      (sym (c.copied.ensures ∙ c.get.ensures) ∙ c.in-Some.is));
  arm_is = c.requires.arm_is;
  there = c.requires.there;
}

pub returns-in_err-check_arm_block-clause-refused : goal.returns-in_err-check_arm_block-clause-refused
returns-in_err-check_arm_block-clause-refused c = λ named rule e all.
    c.in_err-check_arm_block.ensures.refused named rule (passed_on c.from_residual.ensures.1 e)
    (checked_at c.args.self.now.hir.now c.args.self.now.env.now c.args.before c.args.self.now.marks.used all
    c.loop-place.place c.in-Some.key c.loop-place.auto.place (sym (c.copied.ensures ∙ c.get.ensures) ∙ c.in-Some.is))

pub returns-clause-ok : goal.returns-clause-ok
returns-clause-ok c = all_checked c.args.self.now.hir.now c.args.self.now.env.now c.args.before
    c.args.self.now.marks.used (λ i key from below at. c.loop-place.invariant i key from
    (omega (arith, below, c.loop-place-test.false, c.len-place-end.ensures)) at)
