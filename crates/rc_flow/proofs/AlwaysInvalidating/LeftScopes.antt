-- Which scopes have a scope block left, where the blocks that depend on an unmemoized value became pruned ones.
use Rattle.std.proofs.Common.{◌≡◌, ◌∙◌, ◌+◌, ◌≤◌, ◌⊎◌, inl, inr, ℕ, zero, suc, Bool, true, false, List, [], ◌∷◌, Some}
use Rattle.std.proofs.Common.{Contains, slice_get, if◌then◌else◌, arith, add-zero, refl, sym, ap, subst, true≢false}
use Rattle.rc_hir.specs.Model.{Environment}
use Rattle.rc_names.specs.Numbers.{IdentifierId, ScopeId, same_id, times}
use Rattle.rc_names.proofs.NumbersLemmas.{ids_equivalence, same_id-eq}
use Rattle.rc_tree.proofs.DistinctLemmas.{at_least_once, from_times}
use Rattle.rc_tree.specs.Model.{ReactiveBlock}
use Rattle.rc_tree.specs.ScopesIn.{scopes_in}
use Rattle.rc_flow.proofs.AlwaysInvalidating.EndedScopes.{ended, same_ends}
use Rattle.rc_flow.proofs.AlwaysInvalidating.StayingBlocks.{rebuilt_staying, staying, stays_or_dropped}
use Rattle.rc_flow.specs.AlwaysInvalidating.{IsInvalidating, IsWithoutInvalidating, LeavesOthers, dropped_scopes}
use Rattle.rc_flow.specs.Unmemoized.{AreAnswers, HasUnmemoized}
use Rattle.rc_flow.specs.ValueSteps.{value_steps_in}
use Rattle.rc_flow.specs.declared.value_step.ValueStep.{ValueStep}
use Rattle.rc_flow.specs.declared.value_step.ValueStep.TheVariants.{Makes, Copies, Ends}

not_made : (name : IdentifierId) (in_scope : Bool) (scope : ScopeId) → Some (Makes name in_scope) ≡ Some (Ends scope)
    → ⊥
not_made name in_scope scope e = let bad : ⊥ = cc in bad

not_copied : (from to : IdentifierId) (scope : ScopeId) → Some (Copies from to) ≡ Some (Ends scope) → ⊥
not_copied from to scope e = let bad : ⊥ = cc in bad

same_end : (scope other : ScopeId) → Some (Ends scope) ≡ Some (Ends other) → scope ≡ other
same_end scope other e = cc

module _ (env : Environment) (steps : List ValueStep) where
  -- the place is one of those at which the scope depends on an unmemoized value
  abbrev Unmemoized : ℕ → ScopeId → Type 0
  Unmemoized = HasUnmemoized env steps

  moved : {k j : ℕ} {scope : ScopeId} → k ≡ j → Unmemoized k scope → Unmemoized j scope
  moved {scope = scope} same = subst (λ place. Unmemoized place scope) same

  -- wherever a block of the scope ends in the rest of the steps, it depends on an unmemoized value
  abbrev Everywhere : ℕ → List ValueStep → ScopeId → Type 0
  Everywhere k rest scope = (j : ℕ) → slice_get rest j ≡ Some (Ends scope) → Unmemoized (k + j) scope

  everywhere : (k : ℕ) (step : ValueStep) (rest : List ValueStep) (scope : ScopeId)
      → (Some step ≡ Some (Ends scope) → Unmemoized k scope) → Everywhere (k + 1) rest scope
      → Everywhere k (step ∷ rest) scope
  everywhere k step rest scope here later zero e = moved (sym (add-zero k)) (here e)
  everywhere k step rest scope here later (suc j) e =
      let same : k + 1 + j ≡ k + suc j = omega arith in moved same (later j e)

  -- a scope of which no block stays does so
  none_stays : (k : ℕ) (rest : List ValueStep) (answers : List Bool) → AreAnswers env steps k rest answers
      → (scope : ScopeId) → times scope (staying (ended rest) answers) ≡ 0 → Everywhere k rest scope
  none_stays k [] answers all scope none = λ j e. absurd (nothing j e)
    where
      nothing : (j : ℕ) → slice_get [] j ≡ Some (Ends scope) → ⊥
      nothing zero e = let bad : ⊥ = cc in bad
      nothing (suc j) e = let bad : ⊥ = cc in bad
  none_stays k (Makes name in_scope ∷ rest) answers all scope none =
      everywhere k (Makes name in_scope) rest scope (λ e. absurd (not_made name in_scope scope e))
      (none_stays (k + 1) rest answers all scope none)
  none_stays k (Copies from to ∷ rest) answers all scope none =
      everywhere k (Copies from to) rest scope (λ e. absurd (not_copied from to scope e))
      (none_stays (k + 1) rest answers all scope none)
  none_stays k (Ends other ∷ rest) [] all scope none = absurd all
  none_stays k (Ends other ∷ rest) (true ∷ answers) all scope none =
      everywhere k (Ends other) rest scope (λ e. subst (Unmemoized k) (same_end other scope e) (all.0.0 refl))
      (none_stays (k + 1) rest answers all.1 scope none)
  none_stays k (Ends other ∷ rest) (false ∷ answers) all scope none =
      everywhere k (Ends other) rest scope (λ e. absurd (there (same_end other scope e)))
      (none_stays (k + 1) rest answers all.1 scope (omega (arith, none)))
    where
      there : other ≡ scope → ⊥
      there same =
          let one : ◌≡◌ {A = ℕ} (if same_id scope other then 1 else 0) 1 =
          ap (λ b. if b then 1 else 0) (ap (same_id scope) same ∙ ids_equivalence.refl scope) in
          omega (arith, none, one)

  -- the place at which a block of a scope ends that doesn't depend on one
  abbrev Somewhere : ℕ → List ValueStep → ScopeId → Type 0
  Somewhere k rest scope = (j : ℕ) × (slice_get rest j ≡ Some (Ends scope)) × (Unmemoized (k + j) scope → ⊥)

  somewhere : (k : ℕ) (step : ValueStep) (rest : List ValueStep) (scope : ScopeId) → Somewhere (k + 1) rest scope
      → Somewhere k (step ∷ rest) scope
  somewhere k step rest scope it =
      (suc it.0, it.1, λ is. let same : k + suc it.0 ≡ k + 1 + it.0 = omega arith in it.2 (moved same is))

  -- a scope of which a block stays has one
  one_stays : (k : ℕ) (rest : List ValueStep) (answers : List Bool) → AreAnswers env steps k rest answers
      → (scope : ScopeId) → 1 ≤ times scope (staying (ended rest) answers) → Somewhere k rest scope
  one_stays k [] answers all scope some = absurd (omega (arith, some))
  one_stays k (Makes name in_scope ∷ rest) answers all scope some =
      somewhere k (Makes name in_scope) rest scope (one_stays (k + 1) rest answers all scope some)
  one_stays k (Copies from to ∷ rest) answers all scope some =
      somewhere k (Copies from to) rest scope (one_stays (k + 1) rest answers all scope some)
  one_stays k (Ends other ∷ rest) [] all scope some = absurd all
  one_stays k (Ends other ∷ rest) (true ∷ answers) all scope some =
      somewhere k (Ends other) rest scope (one_stays (k + 1) rest answers all.1 scope some)
  one_stays k (Ends other ∷ rest) (false ∷ answers) all scope some =
      by (one_stays (k + 1) rest answers all.1 scope) (same_id scope other) refl some
    where
      later : List ScopeId
      later = staying (ended rest) answers

      by : (1 ≤ times scope later → Somewhere (k + 1) rest scope) → (b : Bool) → same_id scope other ≡ b
          → 1 ≤ (if b then 1 else 0) + times scope later → Somewhere k (Ends other ∷ rest) scope
      by in_rest true is enough =
          let same : other ≡ scope = sym (same_id-eq scope other is) in (
            0,
            ap (λ s. Some (Ends s)) same,
            λ there. true≢false (sym (all.0.1 (subst (Unmemoized k) (sym same) (moved (add-zero k) there)))),
          )
      by in_rest false is enough = somewhere k (Ends other) rest scope (in_rest (omega (arith, enough)))

-- a scope that always invalidates is among those of the blocks that are dropped by the answers
pub drops_invalidating : (env : Environment) (body : ReactiveBlock) (answers : List Bool)
    → AreAnswers env (value_steps_in body) 0 (value_steps_in body) answers → (scope : ScopeId)
    → IsInvalidating env body scope → Contains (dropped_scopes (ended (value_steps_in body)) answers) scope
drops_invalidating env body answers right scope all = by (times scope (staying scopes answers)) refl
  where
    steps : List ValueStep
    steps = value_steps_in body

    scopes : List ScopeId
    scopes = ended steps

    by : (n : ℕ) → times scope (staying scopes answers) ≡ n → Contains (dropped_scopes scopes answers) scope
    by zero none =
        let some = at_least_once scope scopes (subst (λ l. Contains l scope) (sym (same_ends body)) all.has_block) in
        let parts = stays_or_dropped scope scopes answers in
        from_times scope (dropped_scopes scopes answers) (omega (arith, some, none, parts))
    by (suc n) there =
        let it = one_stays env steps 0 steps answers right scope (omega (arith, there)) in
        let same : it.0 ≡ 0 + it.0 = omega arith in
        absurd (it.2 (moved env steps same (all.unmemoized it.0 it.1)))

module _ (env : Environment) (before after : ReactiveBlock) (is : IsWithoutInvalidating env before after) where
  abbrev steps : List ValueStep
  steps = value_steps_in before

  -- the blocks that stay are those of the steps whose answer is false
  left_staying : scopes_in after ≡ staying (ended steps) is.answers
  left_staying = rebuilt_staying is.answers before after is.rebuilt
      ∙ ap (λ l. staying l is.answers) (sym (same_ends before))

  -- each scope block stays or is dropped
  pub left_or_dropped : (scope : ScopeId) → times scope (scopes_in before)
      ≡ times scope (scopes_in after) + times scope (dropped_scopes (scopes_in before) is.answers)
  left_or_dropped scope = stays_or_dropped scope (scopes_in before) is.answers
      ∙ ap (λ l. times scope l + times scope (dropped_scopes (scopes_in before) is.answers))
      (sym (rebuilt_staying is.answers before after is.rebuilt))

  -- a scope of which no block is left always invalidates, and one of which a block is left doesn't
  pub invalidates : (scope : ScopeId) → 1 ≤ times scope (scopes_in before) → times scope (scopes_in after) ≡ 0
      → IsInvalidating env before scope
  invalidates scope some none = record {
    has_block = from_times scope (scopes_in before) some;
    unmemoized = λ place e.
        let same : 0 + place ≡ place = omega arith in
        moved env steps same (none_stays env steps 0 steps is.answers is.right scope
        (sym (ap (times scope) left_staying) ∙ none) place e);
  }

  pub invalidates_not : (scope : ScopeId) → 1 ≤ times scope (scopes_in after) → ¬ IsInvalidating env before scope
  invalidates_not scope some all =
      let it = one_stays env steps 0 steps is.answers is.right scope
      (subst (λ l. 1 ≤ times scope l) left_staying some) in
      let same : it.0 ≡ 0 + it.0 = omega arith in
      it.2 (moved env steps same (all.unmemoized it.0 it.1))

  -- a scope with a block either still has one, or always invalidates
  pub leaves_others : LeavesOthers env before after
  leaves_others = record {
    each = λ scope here. split scope (at_least_once scope (scopes_in before) here) (times scope (scopes_in after)) refl;
    left = λ scope there.
        let some = at_least_once scope (scopes_in after) there in
        let parts = left_or_dropped scope in
        (from_times scope (scopes_in before) (omega (arith, some, parts)), invalidates_not scope some);
  }
    where
      split : (scope : ScopeId) → 1 ≤ times scope (scopes_in before) → (n : ℕ) → times scope (scopes_in after) ≡ n
          → Contains (scopes_in after) scope ⊎ IsInvalidating env before scope
      split scope some zero none = inr (invalidates scope some none)
      split scope some (suc n) there = inl (from_times scope (scopes_in after) (omega (arith, there)))
