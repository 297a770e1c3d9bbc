-- An enter step that doesn't change its part, whatever it does with the world, doesn't make the part deeper.
use Rattle.std.proofs.Common.{◌≡◌, ◌∙◌, ◌≤◌, ℕ, Ok, arith, subst, sym}
use Rattle.rc_tree.proofs.NoDeeper.{same_part}
use Rattle.rc_tree.specs.Fuel.{Hook}
use Rattle.rc_tree.specs.RewriteSteps.{NoDeeper}
use Rattle.rc_tree.specs.Model.{Enter}

module _ {W X : Type 0} where
  -- the step succeeds, and its part stays
  abbrev pub Looks : Hook W X Enter → Type 0
  Looks step = (w : W) (x : X) → (answer : Enter) × (w1 : W) × (step w x ≡ Ok (answer, (w1, x)))

  pub looks_no_deeper : (size : X → ℕ) (step : Hook W X Enter) → Looks step → NoDeeper size step
  looks_no_deeper size step looks w w1 x x1 answer e =
      let p = looks w x in
      subst (λ y. size y ≤ size x) (same_part p.0 answer p.1 w1 x x1 (sym p.2 ∙ e)) (omega arith)
