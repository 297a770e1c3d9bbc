-- The result of the membership check is that of its visits: where none is outside, the last one that is, or the first
-- number outside its table.
use Rattle.std.proofs.Common.{◌≡◌, ◌⊎◌, inl, inr, ℕ, Bool, ◌&&◌, not, List, [], ◌∷◌, ◌++◌, Option, None, Some, Result}
use Rattle.std.proofs.Common.{Ok, Err, All, refl, sym, ap, subst, ◌∙◌, slice_get, if◌then◌else◌}
use Rattle.std.specs.Prelude.{IfErr}
use Rattle.std.specs.List.{AllByRecursion}
use Rattle.std.proofs.lemmas.List.Elements.{All-cons, All-nil}
use Rattle.rc_hir.specs.Model.{Environment, Identifier, Fault, TableName, ReactiveScope}
use Rattle.rc_hir.specs.declared.fault.Fault.TheVariants.{BadName, NoMemory, ScopeCompleted}
use Rattle.rc_hir.specs.declared.fault.TableName.TheVariants.{Identifiers, Scopes}
use Rattle.rc_names.specs.Numbers.{EvaluationOrder, IdentifierId, ScopeId, is_among}
use Rattle.rc_ranges.specs.Ranges.{is_in_range}
use Rattle.rc_tree.proofs.StepLemmas.{same_rest}
use Rattle.rc_tree.specs.Step.{IsStep, bind}
use Rattle.rc_tree.specs.Read.{read_block}
use Rattle.rc_tree.specs.Model.{ReactiveBlock}
use Rattle.rc_checks.proofs.MembershipCheck.WalkLemmas.{IsBadName, Names, seen, told, visits_name, walk_follows}
use Rattle.rc_checks.specs.declared.membership.visitor.Outside.{Outside}
use Rattle.rc_checks.specs.declared.membership.visitor.Seen.{Seen}
use Rattle.rc_checks.specs.Membership.{scope_found, scope_of, range_found, range_of, if_outside}
use Rattle.rc_checks.specs.Membership.{operand_outside, outside, IsKnown, IsInside, IsLastOutside, IsFirstUnknown}
use Rattle.rc_checks.specs.inside.MembershipSteps.{latest_outside, visit_step, after_visits, membership_steps}
use Rattle.rc_tree.specs.ScopesIn.{scopes_in}
use Rattle.rc_tree.specs.Visits.{PlacedOperand, Visit, visits_of}

-- two lists with the same scopes in them give the same

module _ (env : Environment) (blocks others : List ScopeId)
    (same : (scope : ScopeId) → is_among blocks scope ≡ is_among others scope) where
  if_outside-same : (operand : PlacedOperand) (scope : Option ScopeId)
      → if_outside env blocks operand scope ≡ if_outside env others operand scope
  if_outside-same operand None = refl
  if_outside-same operand (Some scope) =
      ap (λ (b : Bool). bind (range_of env scope) (λ range. Ok
      (if (is_in_range operand.id range && (b && not (is_among operand.enclosing scope))) then Some scope else None)))
      (same scope)

  visit_step-same : (visit : Visit) (last : Option Outside)
      → visit_step env blocks visit last ≡ visit_step env others visit last
  visit_step-same (Ok operand) last =
      ap (λ r. bind r (λ scope. Ok (latest_outside operand.id scope last)))
      (same_rest (scope_of env operand.place.identifier) _ _ (if_outside-same operand))
  visit_step-same (Err fault) last = refl

  after_visits-same : (visits : List Visit) (last : Option Outside)
      → after_visits env blocks visits last ≡ after_visits env others visits last
  after_visits-same [] last = refl
  after_visits-same (visit ∷ visits) last =
      ap (λ r. bind r (after_visits env blocks visits)) (visit_step-same visit last)
      ∙ same_rest (visit_step env others visit last) _ _ (after_visits-same visits)

-- where the visits end

module _ (env : Environment) (blocks : List ScopeId) where
  abbrev Inside : List Visit → Type 0
  Inside visits = All (IsInside env blocks) visits

  abbrev Ends : List Visit → Option Outside → Result (Option Outside) Fault → Type 0
  Ends visits last (Ok end) = (Inside visits × (end ≡ last))
      ⊎ ((found : Outside) × (end ≡ Some found) × IsLastOutside env blocks visits found.id found.scope)
  Ends visits last (Err fault) = IsFirstUnknown env blocks visits fault

  module _ (visit : Visit) (visits : List Visit) (known : IsKnown env blocks visit) where
    last_behind : (found : Outside) → IsLastOutside env blocks visits found.id found.scope
        → IsLastOutside env blocks (visit ∷ visits) found.id found.scope
    last_behind found l = record {
      earlier = visit ∷ l.earlier;
      operand = l.operand;
      later = l.later;
      parts = ap (λ vs. visit ∷ vs) l.parts;
      known = All-cons (IsKnown env blocks) visit l.earlier known l.known;
      at = l.at;
      is_outside = l.is_outside;
      inside = l.inside;
    }

    pub unknown_behind : {fault : Fault} → IsFirstUnknown env blocks visits fault
        → IsFirstUnknown env blocks (visit ∷ visits) fault
    unknown_behind f = record {
      earlier = visit ∷ f.earlier;
      visit = f.visit;
      later = f.later;
      parts = ap (λ vs. visit ∷ vs) f.parts;
      known = All-cons (IsKnown env blocks) visit f.earlier known f.known;
      unknown = f.unknown;
    }

  pub unknown_here : (visit : Visit) (visits : List Visit) (fault : Fault) → outside env blocks visit ≡ Err fault
      → IsFirstUnknown env blocks (visit ∷ visits) fault
  unknown_here visit visits fault is =
      record {
        earlier = [];
        visit = visit;
        later = visits;
        parts = refl;
        known = All-nil (IsKnown env blocks);
        unknown = is;
      }

  behind_inside : (operand : PlacedOperand) (visits : List Visit) (last : Option Outside)
      → operand_outside env blocks operand ≡ Ok None →
      (r : Result (Option Outside) Fault) → Ends visits last r → Ends (Ok operand ∷ visits) last r
  behind_inside operand visits last is (Ok end) (inl none) =
      inl (All-cons (IsInside env blocks) (Ok operand) visits is none.0, none.1)
  behind_inside operand visits last is (Ok end) (inr one) =
      inr (one.0, one.1, last_behind (Ok operand) visits (None, is) one.0 one.2)
  behind_inside operand visits last is (Err fault) first = unknown_behind (Ok operand) visits (None, is) first

  behind_outside : (operand : PlacedOperand) (visits : List Visit) (last : Option Outside) (scope : ScopeId)
      → operand_outside env blocks operand ≡ Ok (Some scope) →
      (r : Result (Option Outside) Fault) → Ends visits (Some (record { id = operand.id; scope = scope })) r
      → Ends (Ok operand ∷ visits) last r
  behind_outside operand visits last scope is (Ok end) (inl none) =
      inr (
        record { id = operand.id; scope = scope },
        none.1,
        record {
          earlier = [];
          operand = operand;
          later = visits;
          parts = refl;
          known = All-nil (IsKnown env blocks);
          at = refl;
          is_outside = is;
          inside = none.0;
        },
      )
  behind_outside operand visits last scope is (Ok end) (inr one) =
      inr (one.0, one.1, last_behind (Ok operand) visits (Some scope, is) one.0 one.2)
  behind_outside operand visits last scope is (Err fault) first =
      unknown_behind (Ok operand) visits (Some scope, is) first

  ends : (visits : List Visit) (last : Option Outside) → Ends visits last (after_visits env blocks visits last)
  ends [] last = inl (All-nil (IsInside env blocks), refl)
  ends (Err fault ∷ visits) last = unknown_here (Err fault) visits fault refl
  ends (Ok operand ∷ visits) last = go (operand_outside env blocks operand) refl (ends visits)
    where
      go : (r : Result (Option ScopeId) Fault) → operand_outside env blocks operand ≡ r
          → ((l : Option Outside) → Ends visits l (after_visits env blocks visits l)) →
          Ends (Ok operand ∷ visits) last (bind {A = Option Outside}
          (bind r (λ scope. Ok (latest_outside operand.id scope last))) (after_visits env blocks visits))
      go (Ok None) is later = behind_inside operand visits last is (after_visits env blocks visits last) (later last)
      go (Ok (Some scope)) is later =
          let found : Outside = record { id = operand.id; scope = scope } in
          behind_outside operand visits last scope is (after_visits env blocks visits (Some found)) (later (Some found))
      go (Err fault) is later = unknown_here (Ok operand) visits fault is

  -- a number that isn't known is a bad name

  range_names : (number : ScopeId) (found : Option ReactiveScope) (operand : PlacedOperand) →
      Names (bind (range_found number found) (λ range. Ok (if
      (is_in_range operand.id range && (is_among blocks number && not (is_among operand.enclosing number))) then Some
      number else None)))
  range_names number None operand = (Scopes, number.0, refl)
  range_names number (Some scope) operand = tt

  if_outside-names : (operand : PlacedOperand) (scope : Option ScopeId) → Names (if_outside env blocks operand scope)
  if_outside-names operand None = tt
  if_outside-names operand (Some scope) = range_names scope (slice_get env.scopes scope.0) operand

  scope_names : (number : IdentifierId) (found : Option Identifier) (operand : PlacedOperand)
      → Names (bind (scope_found number found) (if_outside env blocks operand))
  scope_names number None operand = (Identifiers, number.0, refl)
  scope_names number (Some identifier) operand = if_outside-names operand identifier.scope

  outside-names : (visit : Visit) → Names visit → Names (outside env blocks visit)
  outside-names (Ok operand) named =
      scope_names operand.place.identifier (slice_get env.identifiers operand.place.identifier.0) operand
  outside-names (Err fault) named = named

  of_middle : (earlier : List Visit) (visit : Visit) (later : List Visit)
      → AllByRecursion Names (earlier ++ visit ∷ later) → Names visit
  of_middle [] visit later all = all.0
  of_middle (x ∷ earlier) visit later all = of_middle earlier visit later all.1

  unknown_names : (visits : List Visit) (fault : Fault) → AllByRecursion Names visits
      → IsFirstUnknown env blocks visits fault → IsBadName fault
  unknown_names visits fault named first =
      subst Names first.unknown (outside-names first.visit
      (of_middle first.earlier first.visit first.later (subst (AllByRecursion Names) first.parts named)))

-- the state that the walk leaves

module _ (env : Environment) (blocks : List ScopeId) (body : ReactiveBlock)
    (same : (scope : ScopeId) → is_among blocks scope ≡ is_among (scopes_in body) scope) where
  abbrev visits : List Visit
  visits = visits_of env.functions body

  abbrev Walked : Result (Unit {0}) Fault → Seen → Type 0
  Walked r state =
      IsStep (read_block (membership_steps env blocks) env.functions body (seen env blocks [] None)) r state

  all_ends : Ends env (scopes_in body) visits None (after_visits env blocks visits None)
  all_ends = subst (Ends env (scopes_in body) visits None)
      (sym (after_visits-same env blocks (scopes_in body) same visits None)) (ends env (scopes_in body) visits None)

  left : (r : Result (Option Outside) Fault) (state : Seen) → told env blocks [] r ≡ Ok (tt, state)
      → r ≡ Ok state.outside
  left (Ok last) state is =
      let pairs : ◌≡◌ {A = Unit {0} × Seen} (tt, seen env blocks [] last) (tt, state) = cc in
      ap (λ p. Ok p.1.outside) pairs
  left (Err fault) state is = let bad : ⊥ = cc in absurd bad

  failed : (r : Result (Option Outside) Fault) (fault : Fault) → told env blocks [] r ≡ Err fault → r ≡ Err fault
  failed (Ok last) fault is = let bad : ⊥ = cc in absurd bad
  failed (Err other) fault is = let same_fault : other ≡ fault = cc in ap (λ f. Err f) same_fault

  ended : (state : Seen) → Walked (Ok tt) state → Ends env (scopes_in body) visits None (Ok state.outside)
  ended state walked =
      subst (Ends env (scopes_in body) visits None) (left (after_visits env blocks visits None) state
      (sym (walk_follows env blocks body None) ∙ walked)) all_ends

  pub none_outside : (state : Seen) → Walked (Ok tt) state → state.outside ≡ None
      → All (IsInside env (scopes_in body)) visits
  none_outside state walked none = by (ended state walked)
    where
      by : Ends env (scopes_in body) visits None (Ok state.outside) → All (IsInside env (scopes_in body)) visits
      by (inl all) = all.0
      by (inr one) = let z : None ≡ Some one.0 = sym none ∙ one.1 in let bad : ⊥ = cc in absurd bad

  pub last_outside : (state : Seen) (found : Outside) → Walked (Ok tt) state → state.outside ≡ Some found
      → IsLastOutside env (scopes_in body) visits found.id found.scope
  last_outside state found walked is = by (ended state walked)
    where
      by : Ends env (scopes_in body) visits None (Ok state.outside)
          → IsLastOutside env (scopes_in body) visits found.id found.scope
      by (inl all) = let z : Some found ≡ None = sym is ∙ all.1 in let bad : ⊥ = cc in absurd bad
      by (inr one) =
          let one_is : one.0 ≡ found = (let z : Some one.0 ≡ Some found = sym one.1 ∙ is in cc) in
          subst (λ (o : Outside). IsLastOutside env (scopes_in body) visits o.id o.scope) one_is one.2

  pub first_unknown : (state : Seen) (fault : Fault) → Walked (Err fault) state →
      (fault ≡ NoMemory) ⊎ (IsFirstUnknown env (scopes_in body) visits fault × IsBadName fault)
  first_unknown state fault (inl memory) = inl memory
  first_unknown state fault (inr walked) =
      let first : IsFirstUnknown env (scopes_in body) visits fault =
      subst (Ends env (scopes_in body) visits None) (failed (after_visits env blocks visits None) fault
      (sym (walk_follows env blocks body None) ∙ walked)) all_ends in
      inr (first, unknown_names env (scopes_in body) visits fault (visits_name env blocks body) first)

  -- the answer where the walk failed, which is that of its fault

  pub failed_completed : (answer : Result (Unit {0}) Fault) (state : Seen) (fault : Fault) → answer ≡ Err fault
      → Walked (Err fault) state →
      (id : EvaluationOrder) (scope : ScopeId) → answer ≡ Err (ScopeCompleted id scope)
      → IsLastOutside env (scopes_in body) visits id scope
  failed_completed answer state fault is walked id scope completed = by (first_unknown state fault walked)
    where
      by : (fault ≡ NoMemory) ⊎ (IsFirstUnknown env (scopes_in body) visits fault × IsBadName fault)
          → IsLastOutside env (scopes_in body) visits id scope
      by (inl memory) = let bad : ⊥ = cc in absurd bad
      by (inr first) = let name : fault ≡ BadName first.1.0 first.1.1 = first.1.2 in let bad : ⊥ = cc in absurd bad

  pub failed_bad_name : (answer : Result (Unit {0}) Fault) (state : Seen) (fault : Fault) → answer ≡ Err fault
      → Walked (Err fault) state →
      (table : TableName) (index : ℕ) → answer ≡ Err (BadName table index)
      → IsFirstUnknown env (scopes_in body) visits (BadName table index)
  failed_bad_name answer state fault is walked table index named = by (first_unknown state fault walked)
    where
      by : (fault ≡ NoMemory) ⊎ (IsFirstUnknown env (scopes_in body) visits fault × IsBadName fault)
          → IsFirstUnknown env (scopes_in body) visits (BadName table index)
      by (inl memory) = let bad : ⊥ = cc in absurd bad
      by (inr first) = let name : fault ≡ BadName table index = cc in subst (IsFirstUnknown env (scopes_in body) visits)
          name first.0

  pub failed_only : (answer : Result (Unit {0}) Fault) (state : Seen) (fault : Fault) → answer ≡ Err fault
      → Walked (Err fault) state →
      IfErr answer (λ f. (f ≡ NoMemory) ⊎ (((id : EvaluationOrder) × (scope : ScopeId) × (f ≡ ScopeCompleted id scope))
      ⊎ IsBadName f))
  failed_only answer state fault is walked =
      subst (λ r. IfErr r (λ f. (f ≡ NoMemory) ⊎ (((id : EvaluationOrder) × (scope : ScopeId)
      × (f ≡ ScopeCompleted id scope)) ⊎ IsBadName f))) (sym is) (by (first_unknown state fault walked))
    where
      by : (fault ≡ NoMemory) ⊎ (IsFirstUnknown env (scopes_in body) visits fault × IsBadName fault) →
          (fault ≡ NoMemory) ⊎ (((id : EvaluationOrder) × (scope : ScopeId) × (fault ≡ ScopeCompleted id scope))
          ⊎ IsBadName fault)
      by (inl memory) = inl memory
      by (inr first) = inr (inr first.1)

  -- and the answer where it found one outside
  pub found_completed : (state : Seen) (found : Outside) → Walked (Ok tt) state → state.outside ≡ Some found →
      (id : EvaluationOrder) (scope : ScopeId) → ◌≡◌ {A = Result (Unit {0}) Fault}
      (Err (ScopeCompleted found.id found.scope)) (Err (ScopeCompleted id scope)) →
      IsLastOutside env (scopes_in body) visits id scope
  found_completed state found walked is id scope same_answer =
      let same_id : found.id ≡ id = cc in
      let same_scopes : found.scope ≡ scope = cc in
      subst (λ i. IsLastOutside env (scopes_in body) visits i scope) same_id
      (subst (λ s. IsLastOutside env (scopes_in body) visits found.id s) same_scopes
      (last_outside state found walked is))
