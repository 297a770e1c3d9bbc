-- A dependency stays where it was reached at each end of a block of its scope.
use Rattle.std.proofs.Common.{◌≡◌, ◌∙◌, ◌<◌, ◌≤◌, ◌+◌, ℕ, zero, suc, Bool, true, false, List, [], ◌∷◌, ◌++◌, ◌↔◌, inl}
use Rattle.std.proofs.Common.{inr, Option, None, Some, take, length, slice_get, refl, sym, ap, subst, if◌then◌else◌}
use Rattle.std.proofs.Common.{true≢false, arith, add-zero, take_all, length-append}
use Rattle.std.specs.List.{list_any}
use Rattle.std.specs.Map.{lookup}
use Rattle.std.proofs.lemmas.Bool.{cases_lt, or_cases, or_left, or_right}
use Rattle.std.proofs.lemmas.List.{take-append-le}
use Rattle.indexmap.specs.IndexMap.{insert_entry}
use Rattle.rc_hir.specs.Model.{Environment}
use Rattle.rc_names.specs.Numbers.{IdentifierId, ScopeId, is_among, same_id}
use Rattle.rc_names.proofs.KeyedLemmas.{lookup-insert_there, lookup-insert_other}
use Rattle.rc_names.proofs.NumbersLemmas.{ids_equivalence, same_id-eq}
use Rattle.rc_flow.specs.declared.spread.Spread.{Spread}
use Rattle.rc_flow.specs.declared.step.Step.{Step}
use Rattle.rc_flow.specs.declared.step.Step.TheVariants.{Marks, Carries, Ends}
use Rattle.rc_flow.specs.Reached.{IsReached, marked, carried}
use Rattle.rc_flow.specs.inside.Spread.{after_step, after_steps, is_early, Names, noted, noted_if, nothing, with_all}
use Rattle.rc_flow.specs.inside.Spread.{with_names}
use Rattle.rc_flow.proofs.ListLemmas.{StandsAt, first_at, one_at, rest_at, some_same, stands_whole}
use Rattle.rc_flow.proofs.SetLemmas.{In}
use Rattle.rc_flow.proofs.SpreadSteps.{ended_ends, next_names, after_names, next_grows}
use Rattle.rc_flow.proofs.ReachedLemmas.{Agrees, agrees_next}

module _ (env : Environment) where
  module _ (steps : List Step) where
    -- wherever a block of the scope ended before that place, the name was reactive
    abbrev pub ReachedAtEnds : ℕ → ScopeId → IdentifierId → Type 0
    ReachedAtEnds k scope n = (p : ℕ) → slice_get steps p ≡ Some (Ends scope) → p < k → IsReached env steps p n

    -- what holds of the state at that place
    pub record Good (k : ℕ) (s : Spread) : Type 0 where
      pub agrees : Agrees env steps k s.names
      pub sizes : (scope : ScopeId) (size : ℕ) → lookup (same_id scope) s.ends ≡ Some size → size ≤ length s.names
      pub early : (scope : ScopeId) (n : IdentifierId)
          → (is_early s.names n (lookup (same_id scope) s.ends) ≡ true) ↔ ReachedAtEnds k scope n

    early_among : (set : Names) (n : IdentifierId) (size : ℕ) → In n (take size set) → In n set
    early_among [] n zero h = h
    early_among [] n (suc size) h = h
    early_among (x ∷ xs) n zero h = absurd (true≢false (sym h))
    early_among (x ∷ xs) n (suc size) h = elim (or_cases (same_id n x) (is_among (take size xs) n) h) [
      | inl e ↦ or_left (same_id n x) (is_among xs n) e
      | inr k ↦ or_right (same_id n x) (is_among xs n) (early_among xs n size k)
    ]

    -- a name that is early in a set is so in one that has grown
    early_grown : (set more : Names) (n : IdentifierId) (o : Option ℕ)
        → ((size : ℕ) → o ≡ Some size → size ≤ length set)
        → is_early (set ++ more) n o ≡ is_early set n o
    early_grown set more n None within = refl
    early_grown set more n (Some size) within =
        ap (λ names. is_among names n) (take-append-le size set more (within size refl))

    good_row : (k : ℕ) (s : Spread) (step : Step) (names : Names) → slice_get steps k ≡ Some step
        → ((scope : ScopeId) → step ≡ Ends scope → ⊥) → names ≡ next_names env step s.names → Good k s
        → Good (k + 1) (with_names s names)
    good_row k s step names at no_end is good =
        let grown = next_grows env step s.names in
        let whole : names ≡ s.names ++ grown.0 = is ∙ grown.1 in
        record {
          agrees = subst (Agrees env steps (k + 1)) (sym is) (agrees_next env steps k step s.names at good.agrees);
          sizes = λ scope size found.
              let below : size ≤ length s.names = good.sizes scope size found in
              let long : length names ≡ length s.names + length grown.0 =
              ap length whole ∙ length-append s.names grown.0 in
              omega (arith, below, long);
          early = λ scope n.
              let same : is_early names n (lookup (same_id scope) s.ends)
              ≡ is_early s.names n (lookup (same_id scope) s.ends) =
              ap (λ set. is_early set n (lookup (same_id scope) s.ends)) whole
              ∙ early_grown s.names grown.0 n (lookup (same_id scope) s.ends) (good.sizes scope) in (
                (λ h p found below. elim (cases_lt p k) [
                  | inl lt ↦ (good.early scope n).0 (sym same ∙ h) p found lt
                  | inr ge ↦ let here : k ≡ p = omega arith in absurd (no_end scope (one_at steps here at found))
                ]),
                (λ h. same ∙ (good.early scope n).1 (λ p found lt. h p found (omega arith))),
              );
        }

    -- the size is noted where a block of the scope ends
    record NotedWell (k : ℕ) (scope : ScopeId) (s t : Spread) : Type 0 where
      pub names : t.names ≡ s.names
      pub sizes : (other : ScopeId) (size : ℕ) → lookup (same_id other) t.ends ≡ Some size → size ≤ length s.names
      pub early : (other : ScopeId) (n : IdentifierId)
          → (is_early s.names n (lookup (same_id other) t.ends) ≡ true) ↔ ReachedAtEnds (k + 1) other n

    ends_before : (k : ℕ) (other : ScopeId) (n : IdentifierId) → ReachedAtEnds (k + 1) other n
        → ReachedAtEnds k other n
    ends_before k other n h p found lt = h p found (omega arith)

    ends_apart : (k : ℕ) (scope other : ScopeId) (n : IdentifierId) → slice_get steps k ≡ Some (Ends scope)
        → same_id scope other ≡ false → ReachedAtEnds k other n → ReachedAtEnds (k + 1) other n
    ends_apart k scope other n at apart h p found lt = elim (cases_lt p k) [
      | inl below ↦ h p found below
      | inr ge ↦
          let here : k ≡ p = omega arith in
          let same : scope ≡ other = ends_same (one_at steps here at found) in
          absurd (true≢false (sym (subst (λ x. same_id scope x ≡ true) same (ids_equivalence.refl scope)) ∙ apart))
    ]
      where
        ends_same : Ends scope ≡ Ends other → scope ≡ other
        ends_same e = cc

    ends_here : (k : ℕ) (other : ScopeId) (n : IdentifierId) → ReachedAtEnds k other n → IsReached env steps k n
        → ReachedAtEnds (k + 1) other n
    ends_here k other n h r p found lt = elim (cases_lt p k) [
      | inl below ↦ h p found below
      | inr ge ↦ let here : k ≡ p = omega arith in subst (λ q. IsReached env steps q n) here r
    ]

    noted_well : (k : ℕ) (scope : ScopeId) (s : Spread) → slice_get steps k ≡ Some (Ends scope) → Good k s
        → (o : Option ℕ) → lookup (same_id scope) s.ends ≡ o → NotedWell k scope s (noted_if o scope s)
    noted_well k scope s at good (Some size) was = record {
      names = refl;
      sizes = good.sizes;
      early = λ other n. (
        (λ h. by other n (same_id scope other) refl h),
        (λ h. (good.early other n).1 (ends_before k other n h)),
      );
    }
      where
        by : (other : ScopeId) (n : IdentifierId) (b : Bool) → same_id scope other ≡ b
            → is_early s.names n (lookup (same_id other) s.ends) ≡ true → ReachedAtEnds (k + 1) other n
        by other n false apart h = ends_apart k scope other n at apart ((good.early other n).0 h)
        by other n true same h =
            let is : scope ≡ other = same_id-eq scope other same in
            let found : lookup (same_id other) s.ends ≡ Some size =
            subst (λ x. lookup (same_id x) s.ends ≡ Some size) is was in
            let among : In n s.names =
            early_among s.names n size (sym (ap (is_early s.names n) found) ∙ h) in
            ends_here k other n ((good.early other n).0 h) ((good.agrees n).0 among)
    noted_well k scope s at good None was = record {
      names = refl;
      sizes = λ other size found. size_by other size (same_id scope other) refl found;
      early = λ other n. early_by other n (same_id scope other) refl;
    }
      where
        table : List (ScopeId × ℕ)
        table = insert_entry same_id s.ends scope (length s.names)

        there : (other : ScopeId) → same_id scope other ≡ true → lookup (same_id other) table ≡ Some (length s.names)
        there other same = subst (λ x. lookup (same_id x) table ≡ Some (length s.names)) (same_id-eq scope other same)
            (lookup-insert_there ids_equivalence scope (length s.names) s.ends)

        size_by : (other : ScopeId) (size : ℕ) (b : Bool) → same_id scope other ≡ b
            → lookup (same_id other) table ≡ Some size → size ≤ length s.names
        size_by other size true same found =
            let is : length s.names ≡ size = some_same (sym (there other same) ∙ found) in omega (arith, is)
        size_by other size false apart found =
            good.sizes other size (sym (lookup-insert_other ids_equivalence scope (length s.names) s.ends other apart)
            ∙ found)

        early_by : (other : ScopeId) (n : IdentifierId) (b : Bool) → same_id scope other ≡ b
            → (is_early s.names n (lookup (same_id other) table) ≡ true) ↔ ReachedAtEnds (k + 1) other n
        early_by other n true same =
            let is : scope ≡ other = same_id-eq scope other same in
            let old : is_early s.names n (lookup (same_id other) s.ends) ≡ true =
            subst (λ x. is_early s.names n (lookup (same_id x) s.ends) ≡ true) is (ap (is_early s.names n) was) in
            let now : is_early s.names n (lookup (same_id other) table) ≡ is_among s.names n =
            ap (is_early s.names n) (there other same)
            ∙ ap (λ names. is_among names n) (take_all (length s.names) s.names (omega arith)) in
            let at_other : slice_get steps k ≡ Some (Ends other) = at ∙ ap (λ x. Some (Ends x)) is in (
              (λ h. ends_here k other n ((good.early other n).0 old) ((good.agrees n).0 (sym now ∙ h))),
              (λ h. now ∙ (good.agrees n).1 (h k at_other (omega arith))),
            )
        early_by other n false apart =
            let now : is_early s.names n (lookup (same_id other) table)
            ≡ is_early s.names n (lookup (same_id other) s.ends) =
            ap (is_early s.names n) (lookup-insert_other ids_equivalence scope (length s.names) s.ends other apart) in (
              (λ h. ends_apart k scope other n at apart ((good.early other n).0 (sym now ∙ h))),
              (λ h. now ∙ (good.early other n).1 (ends_before k other n h)),
            )

    good_end : (k : ℕ) (s : Spread) (scope : ScopeId) → slice_get steps k ≡ Some (Ends scope) → Good k s
        → Good (k + 1) (after_step env (Ends scope) s)
    good_end k s scope at good =
        let t = noted scope s in
        let after = after_step env (Ends scope) s in
        let well = noted_well k scope s at good (lookup (same_id scope) s.ends) refl in
        let names : after.names ≡ next_names env (Ends scope) s.names = after_names env (Ends scope) s in
        let grown = next_grows env (Ends scope) s.names in
        let whole : after.names ≡ s.names ++ grown.0 = names ∙ grown.1 in
        let ends : after.ends ≡ t.ends = ended_ends (slice_get env.scopes scope.0) t in
        record {
          agrees =
              subst (Agrees env steps (k + 1)) (sym names)
              (agrees_next env steps k (Ends scope) s.names at good.agrees);
          sizes = λ other size found.
              let below : size ≤ length s.names =
              well.sizes other size (sym (ap (lookup (same_id other)) ends) ∙ found) in
              let long : length after.names ≡ length s.names + length grown.0 =
              ap length whole ∙ length-append s.names grown.0 in
              omega (arith, below, long);
          early = λ other n.
              let same : is_early after.names n (lookup (same_id other) after.ends)
              ≡ is_early s.names n (lookup (same_id other) t.ends) =
              ap (λ set. is_early set n (lookup (same_id other) after.ends)) whole
              ∙ ap (λ all. is_early (s.names ++ grown.0) n (lookup (same_id other) all)) ends
              ∙ early_grown s.names grown.0 n (lookup (same_id other) t.ends) (well.sizes other) in
              ((λ h. (well.early other n).0 (sym same ∙ h)), (λ h. same ∙ (well.early other n).1 h));
        }

    marks_no_end : {name : IdentifierId} {scope : ScopeId} → Marks name ≡ Ends scope → ⊥
    marks_no_end e = let bad : ⊥ = cc in bad

    carries_no_end : {from to : Names} {scope : ScopeId} → Carries from to ≡ Ends scope → ⊥
    carries_no_end e = let bad : ⊥ = cc in bad

    good_carry : (k : ℕ) (s : Spread) (from to : Names) → slice_get steps k ≡ Some (Carries from to) → Good k s
        → (b : Bool) → list_any (is_among s.names) from ≡ b
        → Good (k + 1) (if b then with_names s (with_all to s.names) else s)
    good_carry k s from to at good true e =
        good_row k s (Carries from to) (with_all to s.names) at (λ scope. carries_no_end)
        (ap (λ b. if b then with_all to s.names else s.names) (sym e)) good
    good_carry k s from to at good false e =
        good_row k s (Carries from to) s.names at (λ scope. carries_no_end)
        (ap (λ b. if b then with_all to s.names else s.names) (sym e)) good

    good_next : (k : ℕ) (s : Spread) (step : Step) → slice_get steps k ≡ Some step → Good k s
        → Good (k + 1) (after_step env step s)
    good_next k s (Marks name) at good =
        good_row k s (Marks name) (with_all (name ∷ []) s.names) at (λ scope. marks_no_end) refl good
    good_next k s (Carries from to) at good =
        good_carry k s from to at good (list_any (is_among s.names) from) refl
    good_next k s (Ends scope) at good = good_end k s scope at good

    pub good_start : Good 0 nothing
    good_start = record {
      agrees = λ n. ((λ h. absurd (true≢false (sym h))), (λ r. absurd (none_before n r)));
      sizes = λ scope size found. absurd (none_noted found);
      early = λ scope n. ((λ h p found lt. absurd (omega arith)), (λ h. refl));
    }
      where
        none_before : (n : IdentifierId) → IsReached env steps 0 n → ⊥
        none_before n (marked at below) = omega arith
        none_before n (carried at below f r t) = omega arith

        none_noted : {size : ℕ} → None ≡ Some size → ⊥
        none_noted e = let bad : ⊥ = cc in bad

    good_steps : (k : ℕ) (rest : List Step) (s : Spread) → StandsAt steps k rest → Good k s
        → Good (k + length rest) (after_steps env rest s)
    good_steps k [] s stands good = subst (λ n. Good n s) (sym (add-zero k)) good
    good_steps k (x ∷ xs) s stands good =
        let count : k + 1 + length xs ≡ k + length (x ∷ xs) = omega arith in
        subst (λ n. Good n (after_steps env (x ∷ xs) s)) count
        (good_steps (k + 1) xs (after_step env x s) (rest_at steps k x xs stands)
        (good_next k s x (first_at steps k x xs stands) good))

    -- after all the steps
    pub good_all : Good (length steps) (after_steps env steps nothing)
    good_all =
        let whole : 0 + length steps ≡ length steps = omega arith in
        subst (λ n. Good n (after_steps env steps nothing)) whole
        (good_steps 0 steps nothing (stands_whole steps) good_start)

  -- steps, and then others
  pub steps-append : (first second : List Step) (s : Spread)
      → after_steps env (first ++ second) s ≡ after_steps env second (after_steps env first s)
  steps-append [] second s = refl
  steps-append (x ∷ xs) second s = steps-append xs second (after_step env x s)
