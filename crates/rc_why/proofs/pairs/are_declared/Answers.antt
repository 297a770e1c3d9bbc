use Rattle.std.proofs.Common.{◌∙◌, All, Contains, map, refl, subst, sym}
use Rattle.std.proofs.lemmas.Bool.{false≢true}
use Rattle.std.proofs.lemmas.List.{take_all}
use Rattle.rc_why.specs.Pairs.{whole}
use Rattle.rc_why.proofs.EachLemmas.{at_place, one_more}
use Rattle.rc_why.proofs.WholeLemmas.{of_whole, whole_among}
use Rattle.rc_why.proofs.pairs.are_declared.Goals as goal

pub returns-then-not-is_declared : goal.returns-then-not-is_declared
returns-then-not-is_declared c = (
  λ e. absurd (false≢true e),
  λ all. sym c.if-not-is_declared.true ∙ c.is_declared.ensures.1 (of_whole c.args.declarations.now c.pair-item.result
      (at_place (Contains (map whole c.args.declarations.now)) c.args.pairs.now c.loop-pair.pair-index
      c.pair-item.result c.loop-pair-test.true c.pair-item.is all)),
)

pub loop-pair-preserved : goal.loop-pair-preserved
loop-pair-preserved c =
    let here = c.is_declared.ensures.0 c.if-not-is_declared.false in
    one_more (Contains (map whole c.args.declarations.now)) c.args.pairs.now c.loop-pair.pair-index c.pair-item.result
    c.loop-pair-test.true c.pair-item.is c.loop-pair.invariant
    (whole_among c.args.declarations.now c.pair-item.result here.0 here.1)

pub returns : goal.returns
returns c = (
  λ e. subst (All (Contains (map whole c.args.declarations.now)))
      (take_all c.loop-pair.pair-index c.args.pairs.now c.loop-pair-test.false) c.loop-pair.invariant,
  λ all. refl,
)
