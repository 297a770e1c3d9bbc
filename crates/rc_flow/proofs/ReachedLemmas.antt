-- The names that grow over the steps are those that chains of steps reach.
use Rattle.std.proofs.Common.{◌≡◌, ◌≤◌, ◌+◌, ℕ, List, ◌↔◌, inl, inr, Some, slice_get, refl, sym, subst, arith}
use Rattle.rc_hir.specs.Model.{Environment}
use Rattle.rc_names.specs.Numbers.{IdentifierId}
use Rattle.rc_flow.specs.declared.step.Step.{Step}
use Rattle.rc_flow.specs.declared.step.Step.TheVariants.{Marks, Carries, Ends}
use Rattle.rc_flow.specs.Reached.{IsReached, marked, carried, sources, targets}
use Rattle.rc_flow.proofs.ListLemmas.{by_place, one_at}
use Rattle.rc_flow.specs.inside.Spread.{Names}
use Rattle.rc_flow.proofs.SetLemmas.{In, carried_cases, insert_cases, insert_new}
use Rattle.rc_flow.proofs.SpreadSteps.{next_names, next_old, next_new}

module _ (env : Environment) (steps : List Step) where
  abbrev Reached : ℕ → IdentifierId → Type 0
  Reached = IsReached env steps

  pub reached_later : {k n : ℕ} {name : IdentifierId} → Reached k name → k ≤ n → Reached n name
  reached_later (marked at below) le = marked at (omega arith)
  reached_later (carried at below f r t) le = carried at (omega arith) f r t

  -- the set has the names that are reactive at that place
  abbrev pub Agrees : ℕ → Names → Type 0
  Agrees k set = (n : IdentifierId) → In n set ↔ Reached k n

  reached_now : (k : ℕ) (step : Step) (set : Names) (n : IdentifierId) → slice_get steps k ≡ Some step
      → Agrees k set → In n (next_names env step set) → Reached (k + 1) n
  reached_now k (Marks name) set n at inv h = elim (insert_cases set name n h) [
    | inl o ↦ reached_later ((inv n).0 o) (omega arith)
    | inr e ↦ subst (Reached (k + 1)) (sym e) (marked at (omega arith))
  ]
  reached_now k (Carries from to) set n at inv h = elim (carried_cases from to set n h) [
    | inl o ↦ reached_later ((inv n).0 o) (omega arith)
    | inr c ↦ carried at (omega arith) c.1 ((inv c.0).0 c.2) c.3
  ]
  reached_now k (Ends scope) set n at inv h =
      elim (carried_cases (sources env (Ends scope)) (targets env (Ends scope)) set n h) [
        | inl o ↦ reached_later ((inv n).0 o) (omega arith)
        | inr c ↦ carried at (omega arith) c.1 ((inv c.0).0 c.2) c.3
      ]

  now_reached : (k j : ℕ) (step : Step) (set : Names) (n : IdentifierId) → slice_get steps k ≡ Some step
      → Agrees k set → j ≡ k + 1 → Reached j n → In n (next_names env step set)
  now_reached k j step set n at inv is (marked {earlier = p} f below) = by_place p k below is
      (λ lt. next_old env step set n ((inv n).1 (marked f lt)))
      (λ here. subst (λ x. In n (next_names env x set)) (one_at steps here f at) (insert_new set n))
  now_reached k j step set n at inv is (carried {earlier = p} {step = other} {source = a} f below from r to) =
      by_place p k below is (λ lt. next_old env step set n ((inv n).1 (carried f lt from r to))) (λ here.
      let same : other ≡ step = one_at steps here f at in
      next_new env step set n a (subst (λ x. In a (sources env x)) same from)
      ((inv a).1 (subst (λ q. Reached q a) here r)) (subst (λ x. In n (targets env x)) same to))

  pub agrees_next : (k : ℕ) (step : Step) (set : Names) → slice_get steps k ≡ Some step → Agrees k set
      → Agrees (k + 1) (next_names env step set)
  agrees_next k step set at inv n =
      (reached_now k step set n at inv, now_reached k (k + 1) step set n at inv refl)
