use Rattle.std.proofs.Common.{◌≡◌, ◌∙◌, All, Contains, refl, subst, sym}
use Rattle.std.proofs.lemmas.Bool.{false≢true}
use Rattle.std.proofs.lemmas.List.{take_all}
use Rattle.std.proofs.lemmas.List.Elements.{All-more}
use Rattle.rc_why.proofs.names.are_outside.Goals as goal

pub returns-then-is_among : goal.returns-then-is_among
returns-then-is_among c = (
  λ e. absurd (false≢true e),
  λ all. absurd (all c.loop-name.name-index _ c.loop-name-test.true (c.is_among.ensures.0 c.if-is_among.true)),
)

pub loop-name-preserved : goal.loop-name-preserved
loop-name-preserved c =
    All-more (λ name. ¬ Contains c.args.others.now name) c.args.names.now c.loop-name.name-index _
    c.loop-name-test.true c.loop-name.invariant
    (λ among. absurd (false≢true (sym c.if-is_among.false ∙ c.is_among.ensures.1 among)))

pub returns : goal.returns
returns c = (
  λ e. subst (All (λ name. ¬ Contains c.args.others.now name))
      (take_all c.loop-name.name-index c.args.names.now c.loop-name-test.false) c.loop-name.invariant,
  λ all. refl,
)
