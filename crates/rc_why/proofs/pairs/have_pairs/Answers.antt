use Rattle.std.proofs.Common.{◌∙◌, All, Contains, refl, subst, sym}
use Rattle.std.proofs.lemmas.Bool.{false≢true}
use Rattle.std.proofs.lemmas.List.{take_all}
use Rattle.std.proofs.lemmas.List.Elements.{All-map, All-more}
use Rattle.rc_why.specs.Pairs.{whole}
use Rattle.rc_why.proofs.EachLemmas.{of_map}
use Rattle.rc_why.proofs.pairs.have_pairs.Goals as goal

pub returns-then-not-has_pair : goal.returns-then-not-has_pair
returns-then-not-has_pair c = (
  λ e. absurd (false≢true e),
  λ all. sym c.if-not-has_pair.true ∙ c.has_pair.ensures.1 (of_map (Contains c.args.pairs.now) whole
      c.args.declarations.now all c.loop-declaration.declaration-index _ c.loop-declaration-test.true),
)

pub loop-declaration-preserved : goal.loop-declaration-preserved
loop-declaration-preserved c =
    All-more (λ declaration. Contains c.args.pairs.now (whole declaration)) c.args.declarations.now
    c.loop-declaration.declaration-index _ c.loop-declaration-test.true c.loop-declaration.invariant
    (c.has_pair.ensures.0 c.if-not-has_pair.false)

pub returns : goal.returns
returns c = (
  λ e. All-map (Contains c.args.pairs.now) whole c.args.declarations.now
      (subst (All (λ declaration. Contains c.args.pairs.now (whole declaration)))
      (take_all c.loop-declaration.declaration-index c.args.declarations.now c.loop-declaration-test.false)
      c.loop-declaration.invariant),
  λ all. refl,
)
