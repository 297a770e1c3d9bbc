use Rattle.std.proofs.Common.{◌∙◌, All, Contains, refl, subst, sym}
use Rattle.std.proofs.lemmas.Bool.{false≢true}
use Rattle.std.proofs.lemmas.List.{take_all}
use Rattle.rc_why.proofs.EachLemmas.{at_place, one_more}
use Rattle.rc_why.proofs.pairs.are_among.Goals as goal

pub returns-then-not-is_one_of : goal.returns-then-not-is_one_of
returns-then-not-is_one_of c = (
  λ e. absurd (false≢true e),
  λ all. sym c.if-not-is_one_of.true ∙ c.is_one_of.ensures.1 (at_place (Contains c.args.others.now) c.args.pairs.now
      c.loop-pair.pair-index c.pair-item.result c.loop-pair-test.true c.pair-item.is all),
)

pub loop-pair-preserved : goal.loop-pair-preserved
loop-pair-preserved c =
    one_more (Contains c.args.others.now) c.args.pairs.now c.loop-pair.pair-index c.pair-item.result
    c.loop-pair-test.true c.pair-item.is c.loop-pair.invariant (c.is_one_of.ensures.0 c.if-not-is_one_of.false)

pub returns : goal.returns
returns c = (
  λ e. subst (All (Contains c.args.others.now))
      (take_all c.loop-pair.pair-index c.args.pairs.now c.loop-pair-test.false) c.loop-pair.invariant,
  λ all. refl,
)
