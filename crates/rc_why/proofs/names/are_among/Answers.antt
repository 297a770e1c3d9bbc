use Rattle.std.proofs.Common.{◌∙◌, All, Contains, refl, subst, sym}
use Rattle.std.proofs.lemmas.Bool.{false≢true}
use Rattle.std.proofs.lemmas.List.{take_all}
use Rattle.std.proofs.lemmas.List.Elements.{All-more}
use Rattle.rc_why.proofs.names.are_among.Goals as goal

pub returns-then-not-is_among : goal.returns-then-not-is_among
returns-then-not-is_among c = (
  λ e. absurd (false≢true e),
  λ all. sym c.if-not-is_among.true ∙ c.is_among.ensures.1 (all c.loop-name.name-index _ c.loop-name-test.true),
)

pub loop-name-preserved : goal.loop-name-preserved
loop-name-preserved c =
    All-more (Contains c.args.others.now) c.args.names.now c.loop-name.name-index _ c.loop-name-test.true
    c.loop-name.invariant (c.is_among.ensures.0 c.if-not-is_among.false)

pub returns : goal.returns
returns c = (
  λ e. subst (All (Contains c.args.others.now))
      (take_all c.loop-name.name-index c.args.names.now c.loop-name-test.false) c.loop-name.invariant,
  λ all. refl,
)
