-- Each cause is the first unmemoized dependency where a block of its scope ends, and each decision has its cause.
use Rattle.std.proofs.Common.{◌≡◌, ◌∙◌, ◌<◌, ◌+◌, ◌↔◌, ℕ, zero, suc, Bool, true, false, List, [], ◌∷◌, ◌++◌, All}
use Rattle.std.proofs.Common.{Contains, Option, None, Some, slice_get, map, refl, sym, ap, subst, true≢false, arith}
use Rattle.std.proofs.Common.{if◌then◌else◌}
use Rattle.std.proofs.lemmas.List.{map-append}
use Rattle.std.proofs.lemmas.List.Elements.{All-push}
use Rattle.std.specs.List.{find}
use Rattle.rc_hir.specs.Model.{Environment, ReactiveScope}
use Rattle.rc_names.specs.Numbers.{IdentifierId, ScopeId, is_among}
use Rattle.rc_tree.specs.Decided.{decided}
use Rattle.rc_tree.specs.Model.{ReactiveBlock}
use Rattle.rc_flow.proofs.AlwaysInvalidating.DecidedScopes.{same_scopes}
use Rattle.rc_flow.proofs.AlwaysInvalidating.EndedScopes.{ended}
use Rattle.rc_flow.proofs.AlwaysInvalidating.LeftScopes.{drops_invalidating}
use Rattle.rc_flow.proofs.AlwaysInvalidating.MarksLemmas.{Fits, answers_right, decisions_right, fits_next, fits_start}
use Rattle.rc_flow.proofs.ListLemmas.{StandsAt, first_at, rest_at, some_same, stands_whole}
use Rattle.rc_flow.specs.AlwaysInvalidating.{IsInvalidating, always_invalidating, dropped_scopes}
use Rattle.rc_flow.specs.InvalidatingCauses.{IsFirst, IsInvalidatingCause}
use Rattle.rc_flow.specs.Reached.{dependencies_if, dependency_names}
use Rattle.rc_flow.specs.Unmemoized.{IsUnmemoized}
use Rattle.rc_flow.specs.ValueSteps.{value_steps_in}
use Rattle.rc_flow.specs.declared.always_invalidating.marks.Marks.{Marks}
use Rattle.rc_flow.specs.declared.invalidating_cause.InvalidatingCause.{InvalidatingCause}
use Rattle.rc_flow.specs.declared.value_step.ValueStep.{ValueStep}
use Rattle.rc_flow.specs.declared.value_step.ValueStep.TheVariants.{Makes, Copies, Ends}
use Rattle.rc_flow.specs.inside.Marks.{after_step, after_steps, ended as after_block, ended_by, first_dependency}
use Rattle.rc_flow.specs.inside.Marks.{marks_of, no_marks}

-- what is found in a list is the first entry that passes
module _ {X : Type 0} (p : X → Bool) where
  abbrev IsFound : List X → X → Type 0
  IsFound = IsFirst (λ x. p x ≡ true)

  found_later : (y : X) (ys : List X) (x : X) → p y ≡ false → IsFound ys x → IsFound (y ∷ ys) x
  found_later y ys x fails it = record { place = suc it.place; here = it.here; has = it.has; first = before }
    where
      before : (earlier : ℕ) (other : X) → earlier < suc it.place → slice_get (y ∷ ys) earlier ≡ Some other
          → ¬ (p other ≡ true)
      before zero other below at passes = true≢false (sym passes ∙ ap p (sym (some_same at)) ∙ fails)
      before (suc earlier) other below at passes = it.first earlier other (omega (arith, below)) at passes

  found_first : (xs : List X) (x : X) → find p xs ≡ Some x → IsFound xs x
  found_first [] x found = absurd (let bad : ⊥ = cc in bad)
  found_first (y ∷ ys) x found = by (found_first ys x) (p y) refl found
    where
      by : (find p ys ≡ Some x → IsFound ys x) → (b : Bool) → p y ≡ b
          → (if b then Some y else find p ys) ≡ Some x → IsFound (y ∷ ys) x
      by in_rest true passes found = record {
        place = 0;
        here = found;
        has = subst (λ z. p z ≡ true) (some_same found) passes;
        first = λ earlier other below at. absurd (omega (arith, below));
      }
      by in_rest false fails found = found_later y ys x fails (in_rest found)

-- the same by another word for passing
first_by : {X : Type 0} (P Q : X → Type 0) (xs : List X) (x : X) → ((y : X) → P y ↔ Q y) → IsFirst P xs x
    → IsFirst Q xs x
first_by P Q xs x same it = record {
  place = it.place;
  here = it.here;
  has = (same x).0 it.has;
  first = λ earlier other below at has. it.first earlier other below at ((same other).1 has);
}

module _ (env : Environment) (body : ReactiveBlock) where
  abbrev steps : List ValueStep
  steps = value_steps_in body

  abbrev IsCause : InvalidatingCause → Type 0
  IsCause = IsInvalidatingCause env body

  -- the end of a block tells a cause at most
  end_told : (k : ℕ) (scope : ScopeId) (s : Marks) → slice_get steps k ≡ Some (Ends scope) → Fits env steps k s
      → All IsCause s.causes → (o : Option ReactiveScope) → slice_get env.scopes scope.0 ≡ o
      → All IsCause (after_block scope o s).causes
  end_told k scope s at fits told None absent = told
  end_told k scope s at fits told (Some known) there = by (first_dependency known s.unmemoized) refl
    where
      cause : IdentifierId → InvalidatingCause
      cause dependency = record { scope = scope; dependency = dependency }

      by : (found : Option IdentifierId) → first_dependency known s.unmemoized ≡ found
          → All IsCause (ended_by found scope known s).causes
      by None found = told
      by (Some dependency) found = All-push IsCause s.causes (cause dependency) told (record {
        place = k;
        ends = at;
        dependency =
            subst (λ o. IsFirst (IsUnmemoized env steps k) (dependencies_if o) dependency) (sym there)
            (first_by (λ name. is_among s.unmemoized name ≡ true) (IsUnmemoized env steps k) (dependency_names known)
            dependency fits.unmemoized
            (found_first (is_among s.unmemoized) (dependency_names known) dependency found));
      })

  step_told : (k : ℕ) (step : ValueStep) (s : Marks) → slice_get steps k ≡ Some step → Fits env steps k s
      → All IsCause s.causes → All IsCause (after_step env step s).causes
  step_told k (Makes name in_scope) s at fits told = told
  step_told k (Copies from to) s at fits told = told
  step_told k (Ends scope) s at fits told = end_told k scope s at fits told (slice_get env.scopes scope.0) refl

  steps_told : (k : ℕ) (rest : List ValueStep) (s : Marks) → StandsAt steps k rest → Fits env steps k s
      → All IsCause s.causes → All IsCause (after_steps env rest s).causes
  steps_told k [] s stands fits told = told
  steps_told k (step ∷ rest) s stands fits told =
      let at = first_at steps k step rest stands in
      steps_told (k + 1) rest (after_step env step s) (rest_at steps k step rest stands)
      (fits_next env steps k step s at fits) (step_told k step s at fits told)

  -- the scopes of the causes
  abbrev scopes_of : List InvalidatingCause → List ScopeId
  scopes_of = map (λ cause. cause.scope)

  -- what was decided is what has a cause
  abbrev HasCauses : Marks → Type 0
  HasCauses s = s.decided ≡ always_invalidating (scopes_of s.causes)

  end_caused : (scope : ScopeId) (s : Marks) → HasCauses s → (o : Option ReactiveScope)
      → HasCauses (after_block scope o s)
  end_caused scope s so_far None = so_far
  end_caused scope s so_far (Some known) = by (first_dependency known s.unmemoized)
    where
      by : (found : Option IdentifierId) → HasCauses (ended_by found scope known s)
      by None = so_far
      by (Some dependency) =
          let cause : InvalidatingCause = record { scope = scope; dependency = dependency } in
          ap (λ log. log ++ always_invalidating (scope ∷ [])) so_far
          ∙ sym (map-append _ (scopes_of s.causes) (scope ∷ []))
          ∙ ap always_invalidating (sym (map-append (λ it. it.scope) s.causes (cause ∷ [])))

  step_caused : (step : ValueStep) (s : Marks) → HasCauses s → HasCauses (after_step env step s)
  step_caused (Makes name in_scope) s so_far = so_far
  step_caused (Copies from to) s so_far = so_far
  step_caused (Ends scope) s so_far = end_caused scope s so_far (slice_get env.scopes scope.0)

  steps_caused : (rest : List ValueStep) (s : Marks) → HasCauses s → HasCauses (after_steps env rest s)
  steps_caused [] s so_far = so_far
  steps_caused (step ∷ rest) s so_far = steps_caused rest (after_step env step s) (step_caused step s so_far)

  module _ (marks : Marks) (is : marks ≡ marks_of env (value_steps_in body)) where
    pub causes_told : All (IsInvalidatingCause env body) marks.causes
    causes_told = subst (λ (m : Marks). All IsCause m.causes) (sym is)
        (steps_told 0 steps no_marks (stands_whole steps) (fits_start env steps) none)
      where
        none : All IsCause []
        none place other below = absurd (omega (arith, below))

    pub each_caused : (scope : ScopeId) → IsInvalidating env body scope
        → Contains (map (λ (cause : InvalidatingCause). cause.scope) marks.causes) scope
    each_caused scope all =
        let end = marks_of env steps in
        let dropped = dropped_scopes (ended steps) end.dropped in
        let same : dropped ≡ scopes_of end.causes =
        sym (same_scopes dropped) ∙ ap decided (sym (decisions_right env steps) ∙ steps_caused steps no_marks refl)
        ∙ same_scopes (scopes_of end.causes)
        in
        subst (λ (m : Marks). Contains (scopes_of m.causes) scope) (sym is)
        (subst (λ scopes. Contains scopes scope) same
        (drops_invalidating env body end.dropped (answers_right env steps) scope all))
