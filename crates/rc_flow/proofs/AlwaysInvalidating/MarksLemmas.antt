-- The two sets that grow over the steps are those of the chains, the answers are those for each scope block, and what
-- was decided is what they say.
use Rattle.std.proofs.Common.{◌≡◌, ◌∙◌, ◌≤◌, ◌+◌, ◌⊎◌, ◌↔◌, ℕ, Bool, true, false, List, [], ◌∷◌, ◌++◌, inl, inr, Option}
use Rattle.std.proofs.Common.{None, Some, slice_get, refl, sym, ap, subst, true≢false, arith, append_assoc, append-nil}
use Rattle.std.proofs.Common.{◌||◌, if◌then◌else◌, is_some}
use Rattle.std.specs.List.{find, list_any}
use Rattle.rc_hir.specs.Model.{Environment, ReactiveScope}
use Rattle.rc_names.specs.Numbers.{IdentifierId, ScopeId, is_among}
use Rattle.rc_tree.specs.Model.{ReactiveBlock}
use Rattle.rc_flow.specs.declared.always_invalidating.marks.Marks.{Marks}
use Rattle.rc_flow.specs.declared.value_step.ValueStep.{ValueStep}
use Rattle.rc_flow.specs.declared.value_step.ValueStep.TheVariants.{Makes, Copies, Ends}
use Rattle.rc_flow.specs.Reached.{dependencies_if, outputs_if}
use Rattle.rc_flow.specs.Unmemoized.{AreAnswers, IsAlwaysNew, made, copied, IsUnmemoized}
use Rattle.rc_flow.specs.Unmemoized.{outside, passed_on, dropped}
use Rattle.rc_flow.specs.AlwaysInvalidating.{always_invalidating, dropped_scopes, IsRebuiltBy, PrunesInvalidating}
use Rattle.rc_flow.specs.ValueSteps.{value_steps_in}
use Rattle.rc_flow.specs.inside.Marks.{after_step, after_steps, ended as after_block, ended_by, first_dependency}
use Rattle.rc_flow.specs.inside.Marks.{marks_of, no_marks}
use Rattle.rc_flow.specs.inside.Spread.{Names}
use Rattle.rc_flow.proofs.AlwaysInvalidating.EndedScopes.{ended, same_ends}
use Rattle.rc_flow.proofs.ListLemmas.{StandsAt, by_place, first_at, one_at, rest_at, stands_whole}
use Rattle.rc_flow.proofs.SetLemmas.{In, among_some, insert_cases, insert_new, insert_old, some_among}
use Rattle.rc_flow.proofs.AlwaysInvalidating.GrowingSets.{copy_cases, copy_old, copy_new, among_cases, among_old}
use Rattle.rc_flow.proofs.AlwaysInvalidating.GrowingSets.{among_new, outputs_in}

-- the answer for a scope that was looked up
abbrev answer_for : Option ReactiveScope → Names → Bool
answer_for None set = false
answer_for (Some scope) set = is_some (first_dependency scope set)

-- a first one is found where there is one
found_any : {X : Type 0} (p : X → Bool) (xs : List X) → is_some (find p xs) ≡ list_any p xs
found_any p [] = refl
found_any p (x ∷ xs) = by (p x) (found_any p xs)
  where
    by : (b : Bool) → is_some (find p xs) ≡ list_any p xs
        → is_some (if b then Some x else find p xs) ≡ (b || list_any p xs)
    by true rest = refl
    by false rest = rest

answer_cases : (o : Option ReactiveScope) (set : Names) → answer_for o set ≡ true
    → (a : IdentifierId) × In a (dependencies_if o) × In a set
answer_cases None set h = absurd (true≢false (sym h))
answer_cases (Some scope) set h =
    some_among set (dependencies_if (Some scope))
    (sym (found_any (is_among set) (dependencies_if (Some scope))) ∙ h)

answer_new : (o : Option ReactiveScope) (set : Names) (a : IdentifierId) → In a (dependencies_if o) → In a set
    → answer_for o set ≡ true
answer_new None set a h k = absurd (true≢false (sym h))
answer_new (Some scope) set a h k =
    found_any (is_among set) (dependencies_if (Some scope)) ∙ among_some set (dependencies_if (Some scope)) a h k

-- an output that is always new comes in where a dependency is in the set
abbrev FromEnd : Option ReactiveScope → Marks → IdentifierId → Type 0
FromEnd o s n =
    (a : IdentifierId) × In a (dependencies_if o) × In a s.unmemoized × In n (outputs_if o) × In n s.always

-- what the end of a block leaves
module _ (scope : ScopeId) where
  ended_always : (o : Option ReactiveScope) (s : Marks) → (after_block scope o s).always ≡ s.always
  ended_always None s = refl
  ended_always (Some known) s = by (first_dependency known s.unmemoized)
    where
      by : (found : Option IdentifierId) → (ended_by found scope known s).always ≡ s.always
      by (Some dependency) = refl
      by None = refl

  ended_dropped : (o : Option ReactiveScope) (s : Marks)
      → (after_block scope o s).dropped ≡ s.dropped ++ answer_for o s.unmemoized ∷ []
  ended_dropped None s = refl
  ended_dropped (Some known) s = by (first_dependency known s.unmemoized)
    where
      by : (found : Option IdentifierId) → (ended_by found scope known s).dropped ≡ s.dropped ++ is_some found ∷ []
      by (Some dependency) = refl
      by None = refl

  -- one decision more where the answer is true, and then those that come later
  ended_decided : (o : Option ReactiveScope) (s : Marks) (later : List ScopeId)
      → (after_block scope o s).decided ++ always_invalidating later
      ≡ s.decided ++ always_invalidating (if answer_for o s.unmemoized then scope ∷ later else later)
  ended_decided None s later = refl
  ended_decided (Some known) s later = by (first_dependency known s.unmemoized)
    where
      by : (found : Option IdentifierId) → (ended_by found scope known s).decided ++ always_invalidating later
          ≡ s.decided ++ always_invalidating (if is_some found then scope ∷ later else later)
      by (Some dependency) = append_assoc s.decided (always_invalidating (scope ∷ [])) (always_invalidating later)
      by None = refl

  ended_cases : (o : Option ReactiveScope) (s : Marks) (n : IdentifierId) → In n (after_block scope o s).unmemoized
      → In n s.unmemoized ⊎ FromEnd o s n
  ended_cases None s n h = inl h
  ended_cases (Some known) s n h = by (first_dependency known s.unmemoized) refl h
    where
      by : (found : Option IdentifierId) → first_dependency known s.unmemoized ≡ found
          → In n (ended_by found scope known s).unmemoized → In n s.unmemoized ⊎ FromEnd (Some known) s n
      by (Some dependency) e k =
          let there = subst (In n) (outputs_in known s.always s.unmemoized) k in
          elim (among_cases s.always (outputs_if (Some known)) s.unmemoized n there) [
            | inl o ↦ inl o
            | inr p ↦
                let it = answer_cases (Some known) s.unmemoized (ap is_some e) in inr (it.0, it.1, it.2, p.0, p.1)
          ]
      by None e k = inl k

  ended_old : (o : Option ReactiveScope) (s : Marks) (n : IdentifierId) → In n s.unmemoized
      → In n (after_block scope o s).unmemoized
  ended_old None s n h = h
  ended_old (Some known) s n h = by (first_dependency known s.unmemoized)
    where
      by : (found : Option IdentifierId) → In n (ended_by found scope known s).unmemoized
      by (Some dependency) = subst (In n) (sym (outputs_in known s.always s.unmemoized))
          (among_old s.always (outputs_if (Some known)) s.unmemoized n h)
      by None = h

  ended_new : (o : Option ReactiveScope) (s : Marks) (n : IdentifierId) → FromEnd o s n
      → In n (after_block scope o s).unmemoized
  ended_new None s n f = absurd (true≢false (sym f.1))
  ended_new (Some known) s n f =
      by (first_dependency known s.unmemoized) (answer_new (Some known) s.unmemoized f.0 f.1 f.2)
    where
      by : (found : Option IdentifierId) → is_some found ≡ true → In n (ended_by found scope known s).unmemoized
      by (Some dependency) e = subst (In n) (sym (outputs_in known s.always s.unmemoized))
          (among_new s.always (outputs_if (Some known)) s.unmemoized n f.3 f.4)
      by None e = absurd (true≢false (sym e))

module _ (env : Environment) where
  abbrev next : ValueStep → Marks → Marks
  next = after_step env

  always_old : (step : ValueStep) (s : Marks) (n : IdentifierId) → In n s.always → In n (next step s).always
  always_old (Makes name in_scope) s n h = insert_old s.always name n h
  always_old (Copies from to) s n h = copy_old from to s.always n h
  always_old (Ends scope) s n h = subst (In n) (sym (ended_always scope (slice_get env.scopes scope.0) s)) h

  unmemoized_old : (step : ValueStep) (s : Marks) (n : IdentifierId) → In n s.unmemoized
      → In n (next step s).unmemoized
  unmemoized_old (Makes name true) s n h = h
  unmemoized_old (Makes name false) s n h = insert_old s.unmemoized name n h
  unmemoized_old (Copies from to) s n h = copy_old from to s.unmemoized n h
  unmemoized_old (Ends scope) s n h = ended_old scope (slice_get env.scopes scope.0) s n h

  module _ (steps : List ValueStep) where
    abbrev Always : ℕ → IdentifierId → Type 0
    Always = IsAlwaysNew steps

    abbrev Unmemoized : ℕ → IdentifierId → Type 0
    Unmemoized = IsUnmemoized env steps

    always_later : {k n : ℕ} {name : IdentifierId} → Always k name → k ≤ n → Always n name
    always_later (made at below) le = made at (omega arith)
    always_later (copied at below r) le = copied at (omega arith) r

    unmemoized_later : {k n : ℕ} {name : IdentifierId} → Unmemoized k name → k ≤ n → Unmemoized n name
    unmemoized_later (outside at below) le = outside at (omega arith)
    unmemoized_later (passed_on at below r) le = passed_on at (omega arith) r
    unmemoized_later (dropped at below d u o a) le = dropped at (omega arith) d u o a

    pub record Fits (k : ℕ) (s : Marks) : Type 0 where
      pub always : (n : IdentifierId) → In n s.always ↔ Always k n
      pub unmemoized : (n : IdentifierId) → In n s.unmemoized ↔ Unmemoized k n

    always_now : (k : ℕ) (step : ValueStep) (s : Marks) (n : IdentifierId) → slice_get steps k ≡ Some step → Fits k s
        → In n (next step s).always → Always (k + 1) n
    always_now k (Makes name in_scope) s n at fits h = elim (insert_cases s.always name n h) [
      | inl o ↦ always_later ((fits.always n).0 o) (omega arith)
      | inr e ↦ subst (Always (k + 1)) (sym e) (made at (omega arith))
    ]
    always_now k (Copies from to) s n at fits h = elim (copy_cases from to s.always n h) [
      | inl o ↦ always_later ((fits.always n).0 o) (omega arith)
      | inr p ↦ subst (Always (k + 1)) (sym p.1) (copied at (omega arith) ((fits.always from).0 p.0))
    ]
    always_now k (Ends scope) s n at fits h =
        always_later ((fits.always n).0 (subst (In n) (ended_always scope (slice_get env.scopes scope.0) s) h))
        (omega arith)

    unmemoized_now : (k : ℕ) (step : ValueStep) (s : Marks) (n : IdentifierId) → slice_get steps k ≡ Some step
        → Fits k s → In n (next step s).unmemoized → Unmemoized (k + 1) n
    unmemoized_now k (Makes name true) s n at fits h = unmemoized_later ((fits.unmemoized n).0 h) (omega arith)
    unmemoized_now k (Makes name false) s n at fits h = elim (insert_cases s.unmemoized name n h) [
      | inl o ↦ unmemoized_later ((fits.unmemoized n).0 o) (omega arith)
      | inr e ↦ subst (Unmemoized (k + 1)) (sym e) (outside at (omega arith))
    ]
    unmemoized_now k (Copies from to) s n at fits h = elim (copy_cases from to s.unmemoized n h) [
      | inl o ↦ unmemoized_later ((fits.unmemoized n).0 o) (omega arith)
      | inr p ↦ subst (Unmemoized (k + 1)) (sym p.1) (passed_on at (omega arith) ((fits.unmemoized from).0 p.0))
    ]
    unmemoized_now k (Ends scope) s n at fits h = elim (ended_cases scope (slice_get env.scopes scope.0) s n h) [
      | inl o ↦ unmemoized_later ((fits.unmemoized n).0 o) (omega arith)
      | inr f ↦ dropped at (omega arith) f.1 ((fits.unmemoized f.0).0 f.2) f.3 ((fits.always n).0 f.4)
    ]

    now_always : (k j : ℕ) (step : ValueStep) (s : Marks) (n : IdentifierId) → slice_get steps k ≡ Some step
        → Fits k s → j ≡ k + 1 → Always j n → In n (next step s).always
    now_always k j step s n at fits is (made {earlier = p} {in_scope = b} f below) = by_place p k below is
        (λ lt. always_old step s n ((fits.always n).1 (made f lt)))
        (λ here. subst (λ x. In n (next x s).always) (one_at steps here f at) (insert_new s.always n))
    now_always k j step s n at fits is (copied {earlier = p} {from = from} f below r) = by_place p k below is
        (λ lt. always_old step s n ((fits.always n).1 (copied f lt r)))
        (λ here. subst (λ x. In n (next x s).always) (one_at steps here f at)
        (copy_new from n s.always ((fits.always from).1 (subst (λ q. Always q from) here r))))

    now_unmemoized : (k j : ℕ) (step : ValueStep) (s : Marks) (n : IdentifierId) → slice_get steps k ≡ Some step
        → Fits k s → j ≡ k + 1 → Unmemoized j n → In n (next step s).unmemoized
    now_unmemoized k j step s n at fits is (outside {earlier = p} f below) = by_place p k below is
        (λ lt. unmemoized_old step s n ((fits.unmemoized n).1 (outside f lt)))
        (λ here. subst (λ x. In n (next x s).unmemoized) (one_at steps here f at) (insert_new s.unmemoized n))
    now_unmemoized k j step s n at fits is (passed_on {earlier = p} {from = from} f below r) = by_place p k below is
        (λ lt. unmemoized_old step s n ((fits.unmemoized n).1 (passed_on f lt r)))
        (λ here. subst (λ x. In n (next x s).unmemoized) (one_at steps here f at)
        (copy_new from n s.unmemoized ((fits.unmemoized from).1 (subst (λ q. Unmemoized q from) here r))))
    now_unmemoized k j step s n at fits is (dropped {earlier = p} {scope = scope} {cause = a} f below d u o always) =
        by_place p k below is
        (λ lt. unmemoized_old step s n ((fits.unmemoized n).1 (dropped f lt d u o always)))
        (λ here. subst (λ x. In n (next x s).unmemoized) (one_at steps here f at)
        (ended_new scope (slice_get env.scopes scope.0) s n (
          a,
          d,
          (fits.unmemoized a).1 (subst (λ q. Unmemoized q a) here u),
          o,
          (fits.always n).1 (subst (λ q. Always q n) here always),
        )))

    pub fits_next : (k : ℕ) (step : ValueStep) (s : Marks) → slice_get steps k ≡ Some step → Fits k s
        → Fits (k + 1) (next step s)
    fits_next k step s at fits = record {
      always = λ n. (always_now k step s n at fits, now_always k (k + 1) step s n at fits refl);
      unmemoized = λ n. (unmemoized_now k step s n at fits, now_unmemoized k (k + 1) step s n at fits refl);
    }

    pub fits_start : Fits 0 no_marks
    fits_start = record {
      always = λ n. ((λ h. absurd (true≢false (sym h))), (λ r. absurd (none_always n r)));
      unmemoized = λ n. ((λ h. absurd (true≢false (sym h))), (λ r. absurd (none_unmemoized n r)));
    }
      where
        none_always : (n : IdentifierId) → Always 0 n → ⊥
        none_always n (made at below) = omega arith
        none_always n (copied at below r) = omega arith

        none_unmemoized : (n : IdentifierId) → Unmemoized 0 n → ⊥
        none_unmemoized n (outside at below) = omega arith
        none_unmemoized n (passed_on at below r) = omega arith
        none_unmemoized n (dropped at below d u o a) = omega arith

    -- the answers that the rest adds, and what they decide
    record Adds (k : ℕ) (rest : List ValueStep) (s : Marks) : Type 0 where
      pub answers : List Bool
      pub answered : (after_steps env rest s).dropped ≡ s.dropped ++ answers
      pub decided : (after_steps env rest s).decided
          ≡ s.decided ++ always_invalidating (dropped_scopes (ended rest) answers)
      pub right : AreAnswers env steps k rest answers

    adds : (k : ℕ) (rest : List ValueStep) (s : Marks) → StandsAt steps k rest → Fits k s → Adds k rest s
    adds k [] s stands fits = record {
      answers = [];
      answered = sym (append-nil s.dropped);
      decided = sym (append-nil s.decided);
      right = refl;
    }
    adds k (Makes name in_scope ∷ xs) s stands fits =
        let step = Makes name in_scope in
        let it = adds (k + 1) xs (next step s) (rest_at steps k step xs stands)
        (fits_next k step s (first_at steps k step xs stands) fits) in
        record { answers = it.answers; answered = it.answered; decided = it.decided; right = it.right }
    adds k (Copies from to ∷ xs) s stands fits =
        let step = Copies from to in
        let it = adds (k + 1) xs (next step s) (rest_at steps k step xs stands)
        (fits_next k step s (first_at steps k step xs stands) fits) in
        record { answers = it.answers; answered = it.answered; decided = it.decided; right = it.right }
    adds k (Ends scope ∷ xs) s stands fits =
        let step = Ends scope in
        let o = slice_get env.scopes scope.0 in
        let answer = answer_for o s.unmemoized in
        let it = adds (k + 1) xs (next step s) (rest_at steps k step xs stands)
        (fits_next k step s (first_at steps k step xs stands) fits) in
        record {
          answers = answer ∷ it.answers;
          answered = it.answered ∙ ap (λ all. all ++ it.answers) (ended_dropped scope o s)
              ∙ append_assoc s.dropped (answer ∷ []) it.answers;
          decided = it.decided ∙ ended_decided scope o s (dropped_scopes (ended xs) it.answers);
          right = (
            (
              (λ h. let a = answer_cases o s.unmemoized h in
                  record { cause = a.0; among = a.1; unmemoized = (fits.unmemoized a.0).0 a.2 }),
              (λ h. answer_new o s.unmemoized h.cause h.among ((fits.unmemoized h.cause).1 h.unmemoized)),
            ),
            it.right,
          );
        }

    -- the answers of all the steps, and what they decide
    pub answers_right : AreAnswers env steps 0 steps (marks_of env steps).dropped
    answers_right =
        let it = adds 0 steps no_marks (stands_whole steps) fits_start in
        subst (AreAnswers env steps 0 steps) (sym it.answered) it.right

    pub decisions_right : (marks_of env steps).decided
        ≡ always_invalidating (dropped_scopes (ended steps) (marks_of env steps).dropped)
    decisions_right =
        let it = adds 0 steps no_marks (stands_whole steps) fits_start in
        it.decided ∙ ap (λ answers. always_invalidating (dropped_scopes (ended steps) answers)) (sym it.answered)

-- a body that is rebuilt by the answers is the expected one, and so is what was decided
pub prunes_invalidating : (env : Environment) (before after : ReactiveBlock) (marks : Marks)
    → marks ≡ marks_of env (value_steps_in before) → IsRebuiltBy marks.dropped before after
    → PrunesInvalidating env before after marks.decided
prunes_invalidating env before after marks is rebuilt =
    let steps = value_steps_in before in
    record {
      without = record {
        answers = marks.dropped;
        right = subst (λ (m : Marks). AreAnswers env steps 0 steps m.dropped) (sym is) (answers_right env steps);
        rebuilt = rebuilt;
      };
      told = subst (λ (m : Marks). m.decided ≡ always_invalidating (dropped_scopes (ended steps) m.dropped)) (sym is)
          (decisions_right env steps)
          ∙ ap (λ scopes. always_invalidating (dropped_scopes scopes marks.dropped)) (same_ends before);
    }
