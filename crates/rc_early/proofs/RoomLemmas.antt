-- Room for early returns, and the environments to which they are added one after the other.
use Rattle.std.proofs.Common.{◌≡◌, ◌∙◌, ◌+◌, ◌-◌, ◌<◌, ◌++◌, ℕ, List, [], ◌∷◌, IsTrue, refl}
use Rattle.std.proofs.Common.{sym, ap, subst}
use Rattle.std.proofs.Common.{length, get_or, drop, drop-cons, add-one, arith}
use Rattle.std.proofs.lemmas.Bool.{and_from, and_parts, ltb-true, lt-ltb}
use Rattle.rc_early.specs.Entries.{has_room, with_early_return, with_early_returns}
use Rattle.rc_early.specs.declared.early_return.EarlyReturn.{EarlyReturn}
use Rattle.rc_early.specs.inside.Growing.{AreNumbered, Fits}
use Rattle.rc_hir.specs.Model.{Environment}

pub room_fits : (env : Environment) (count : ℕ) → IsTrue (has_room env count) → Fits env count
room_fits env count room =
    let one = and_parts _ _ room in
    let more = and_parts _ _ one.1 in
    record {
      identifiers = ltb-true _ _ one.0;
      types = ltb-true _ _ more.0;
      blocks = ltb-true _ _ more.1;
    }

pub fits_room : (env : Environment) (count : ℕ) → Fits env count → IsTrue (has_room env count)
fits_room env count fits =
    and_from _ _ (lt-ltb _ _ fits.identifiers) (and_from _ _ (lt-ltb _ _ fits.types) (lt-ltb _ _ fits.blocks))

-- an early return adds five identifiers, five types and a block
five_more : {X : Type 0} (xs : List X) (a b c d e : X)
    → length (((((xs ++ a ∷ []) ++ b ∷ []) ++ c ∷ []) ++ d ∷ []) ++ e ∷ []) ≡ length xs + 5
five_more [] a b c d e = refl
five_more (x ∷ xs) a b c d e = omega (arith, five_more xs a b c d e)

pub five_identifiers : (env : Environment) (early : EarlyReturn)
    → length (with_early_return early env).identifiers ≡ length env.identifiers + 5
five_identifiers env early = five_more env.identifiers _ _ _ _ _

five_types : (env : Environment) (early : EarlyReturn)
    → length (with_early_return early env).types ≡ length env.types + 5
five_types env early = five_more env.types _ _ _ _ _

fits_after : (env : Environment) (early : EarlyReturn) (count : ℕ) → Fits env (count + 1)
    → Fits (with_early_return early env) count
fits_after env early count fits = record {
  identifiers = omega (arith, fits.identifiers, five_identifiers env early);
  types = omega (arith, fits.types, five_types env early);
  blocks = omega (arith, fits.blocks);
}

pub fits_fewer : (env : Environment) (more count : ℕ) → Fits env (count + more) → Fits env count
fits_fewer env more count fits = record {
  identifiers = omega (arith, fits.identifiers);
  types = omega (arith, fits.types);
  blocks = omega (arith, fits.blocks);
}

-- a loop over early returns, at one of them
module _ (made : List EarlyReturn) (i : ℕ) (other : EarlyReturn) (here : i < length made) (env : Environment) where
  abbrev early : EarlyReturn
  early = get_or made i other

  front : drop i made ≡ early ∷ drop (i + 1) made
  front = rw (drop-cons made i other, add-one i) refl

  pub numbered_here : AreNumbered env (drop i made) → early.entry.value.0 ≡ length env.identifiers
  numbered_here all = (subst (AreNumbered env) front all).0

  pub fits_here : Fits env (length made - i) → IsTrue (has_room env 1)
  fits_here fits = fits_room env 1 (fits_fewer env (length made - i - 1) 1
      (subst (Fits env) (let e : length made - i ≡ 1 + (length made - i - 1) = omega arith in e) fits))

  -- the next environment
  module _ (next : Environment) (is : next ≡ with_early_return early env) where
    pub numbered_next : AreNumbered env (drop i made) → AreNumbered next (drop (i + 1) made)
    numbered_next all = subst (λ e. AreNumbered e (drop (i + 1) made)) (sym is) (subst (AreNumbered env) front all).1

    pub returns_next : with_early_returns (drop i made) env ≡ with_early_returns (drop (i + 1) made) next
    returns_next = ap (λ xs. with_early_returns xs env) front ∙ ap (with_early_returns (drop (i + 1) made)) (sym is)

    pub fits_next : Fits env (length made - i) → Fits next (length made - (i + 1))
    fits_next fits = subst (λ e. Fits e (length made - (i + 1))) (sym is)
        (fits_after env early (length made - (i + 1))
        (subst (Fits env) (let e : length made - i ≡ length made - (i + 1) + 1 = omega arith in e) fits))
