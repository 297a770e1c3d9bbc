use Rattle.std.proofs.Common.{◌≡◌, ◌∙◌, All, Contains, subst, sym}
use Rattle.std.proofs.lemmas.Bool.{false≢true}
use Rattle.rc_why.proofs.fits.is_not_escaping.Goals as goal

pub returns-then-not-is_empty : goal.returns-then-not-is_empty
returns-then-not-is_empty c = (
  λ e. record {
    some = λ none. absurd (false≢true (sym c.if-not-is_empty.true ∙ c.is_empty.ensures.1 none));
    unmemoized = subst (All (λ name. ¬ Contains c.args.memoized.now name)) c.as_slice.ensures
        (c.are_outside.ensures.0 e);
  },
  λ is. c.are_outside.ensures.1
      (subst (All (λ name. ¬ Contains c.args.memoized.now name)) (sym c.as_slice.ensures) is.unmemoized),
)
