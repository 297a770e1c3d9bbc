-- A context is visited by its places that are needed: a visit of another place changes nothing, or what it changes is
-- changed again by that of a later place with the same scope. Of these, those that are left at the row's id are enough.
use Rattle.std.proofs.Common.{◌≡◌, ◌∙◌, ◌∷◌, Bool, true, false, ◌&&◌, ◌||◌, not, List, [], Option}
use Rattle.std.proofs.Common.{None, Some, Result, Ok, Err, ℕ, ◌-◌, ◌<◌, ◌≤◌, length, drop, get_or, arith}
use Rattle.std.proofs.Common.{refl, sym, ap, subst, if◌then◌else◌, option_map, slice_get, true≢false}
use Rattle.std.specs.Result.{is_err}
use Rattle.std.proofs.lemmas.List.{drop_more}
use Rattle.std.proofs.lemmas.Option.{slice_get-map}
use Rattle.rc_hir.specs.Model.{Environment, Fault, HirFunction, MutableRange, Place}
use Rattle.rc_hir.specs.Operands.{context_found}
use Rattle.rc_hir.specs.declared.fault.Fault.TheVariants.{BadName}
use Rattle.rc_hir.specs.declared.fault.TableName.TheVariants.{Functions}
use Rattle.rc_names.specs.Numbers.{EvaluationOrder, FunctionId, ScopeId, is_among, same_id}
use Rattle.rc_names.proofs.NumbersLemmas.{same_id-eq}
use Rattle.rc_ranges.specs.Ranges.{is_in_range}
use Rattle.rc_tree.proofs.StepLemmas.{Ok-injective, not_err, same_rest}
use Rattle.rc_tree.specs.Step.{Walk, bind, each}
use Rattle.rc_checks.proofs.MembershipCheck.RangeLemmas.{some_same, visited_at_id}
use Rattle.rc_checks.proofs.MembershipCheck.WalkLemmas.{seen, told}
use Rattle.rc_checks.proofs.MembershipCheck.WithoutBlocks.{never}
use Rattle.rc_checks.specs.declared.membership.contexts.ContextToVisit.{ContextToVisit}
use Rattle.rc_checks.specs.declared.membership.visitor.Outside.{Outside}
use Rattle.rc_checks.specs.declared.membership.visitor.Seen.{Seen}
use Rattle.rc_checks.specs.Membership.{if_outside, range_of, scope_of}
use Rattle.rc_checks.specs.inside.ContextVisits.{by_range, contexts_to_visit, has_scope, in_front, is_needed, is_scope}
use Rattle.rc_checks.specs.inside.ContextVisits.{places_to_visit, visited_at}
use Rattle.rc_checks.specs.inside.MembershipSteps.{latest_outside, membership_steps}

-- found twice is as found once
latest_again : (id : EvaluationOrder) (found : Option ScopeId) (last : Option Outside)
    → latest_outside id found (latest_outside id found last) ≡ latest_outside id found last
latest_again id None last = refl
latest_again id (Some scope) last = refl

module _ (env : Environment) (blocks : List ScopeId) (id : EvaluationOrder) where
  abbrev visit_place : Place → Walk Seen
  visit_place = (membership_steps env blocks).visit_place id

  -- an operand in a range: the scope, where it is outside
  abbrev in_range : List ScopeId → ScopeId → MutableRange → Option ScopeId
  in_range around scope range =
      if is_in_range id range && (is_among blocks scope && not (is_among around scope)) then Some scope else None

  -- what a visit finds of a place with that scope
  abbrev found_of : List ScopeId → ScopeId → Result (Option ScopeId) Fault
  found_of around scope = bind (range_of env scope) (λ range. Ok (in_range around scope range))

  -- a visit that finds that, and those of the places after it
  abbrev then_visit : List Place → List ScopeId → Option Outside → Result (Option ScopeId) Fault
      → Result (Unit {0} × Seen) Fault
  then_visit places around last found =
      bind (told env blocks around (bind found (λ scope. Ok (latest_outside id scope last))))
      (λ r. each visit_place places r.1)

  -- what was found of a scope is found again at a later place of it, and takes the place of all before
  module _ (around : List ScopeId) (scope : ScopeId) (own : Option ScopeId) (is : found_of around scope ≡ Ok own) where
    -- from an operand outside that is kept, or without it
    abbrev IsCovered : List Place → Option Outside → Type 0
    IsCovered places last =
        each visit_place places (seen env blocks around (latest_outside id own last))
        ≡ each visit_place places (seen env blocks around last)

    -- the same after a visit that finds that
    abbrev IsCoveredBehind : Result (Option ScopeId) Fault → List Place → Option Outside → Type 0
    IsCoveredBehind found places last =
        then_visit places around (latest_outside id own last) found ≡ then_visit places around last found

    covered : (places : List Place) → has_scope env places scope ≡ true → (last : Option Outside)
        → IsCovered places last
    covered [] there last = absurd (true≢false (sym there))
    covered (place ∷ places) there last =
        by (scope_of env place.identifier) there (λ behind. covered places behind last)
      where
        -- a place of another scope finds an operand outside, or what is kept stays
        past : (found : Result (Option ScopeId) Fault) → IsCovered places last → IsCoveredBehind found places last
        past (Err fault) behind = refl
        past (Ok None) behind = behind
        past (Ok (Some other)) behind = refl

        here : (other : ScopeId) → scope ≡ other → IsCoveredBehind (found_of around other) places last
        here other same =
            let finds : Ok own ≡ found_of around other = sym is ∙ ap (found_of around) same in
            subst (λ found. IsCoveredBehind found places last) finds
            (ap (λ l. each visit_place places (seen env blocks around l)) (latest_again id own last))

        at : (other : ScopeId) (b : Bool) → same_id scope other ≡ b → (b || has_scope env places scope) ≡ true
            → (has_scope env places scope ≡ true → IsCovered places last)
            → IsCoveredBehind (found_of around other) places last
        at other true same there behind = here other (same_id-eq scope other same)
        at other false apart there behind = past (found_of around other) (behind there)

        by : (r : Result (Option ScopeId) Fault) → (is_scope scope r || has_scope env places scope) ≡ true
            → (has_scope env places scope ≡ true → IsCovered places last)
            → IsCoveredBehind (bind r (if_outside env blocks (record { id = id; place = place; enclosing = around })))
            places last
        by (Err fault) there behind = refl
        by (Ok None) there behind = behind there
        by (Ok (Some other)) there behind = at other (same_id scope other) refl there behind

  -- a place that isn't needed in front of those
  module _ (left : List Place) (s : Seen) where
    -- its scope has no block, or one of those has the scope
    in_scope : (scope : ScopeId) (range : Result MutableRange Fault) → range_of env scope ≡ range
        → (is_err range || (is_among blocks scope && not (has_scope env left scope))) ≡ false
        → then_visit left s.around s.outside (bind range (λ range. Ok (in_range s.around scope range)))
        ≡ each visit_place left s
    in_scope scope (Err fault) is none = absurd (true≢false none)
    in_scope scope (Ok range) is none = by (is_among blocks scope) refl (has_scope env left scope) refl none
      where
        by : (block : Bool) → is_among blocks scope ≡ block → (there : Bool) → has_scope env left scope ≡ there
            → (block && not there) ≡ false
            → then_visit left s.around s.outside (Ok (in_range s.around scope range)) ≡ each visit_place left s
        by false no_block there is_there none =
            let shut : (is_in_range id range && (is_among blocks scope && not (is_among s.around scope))) ≡ false =
            ap (λ b. is_in_range id range && (b && not (is_among s.around scope))) no_block
            ∙ never (is_in_range id range) in
            ap (λ (b : Bool). then_visit left s.around s.outside (Ok (if b then Some scope else None))) shut
        by true block true is_there none =
            covered s.around scope (in_range s.around scope range)
            (ap (λ r. bind r (λ range. Ok (in_range s.around scope range))) is) left is_there s.outside
        by true block false is_there none = absurd (true≢false none)

    skipped : (place : Place) (scope : Result (Option ScopeId) Fault)
        → is_needed env blocks (has_scope env left) scope ≡ false
        → then_visit left s.around s.outside (bind scope (if_outside env blocks
        (record { id = id; place = place; enclosing = s.around })))
        ≡ each visit_place left s
    skipped place (Err fault) none = absurd (true≢false none)
    skipped place (Ok None) none = refl
    skipped place (Ok (Some scope)) none = in_scope scope (range_of env scope) refl none

  -- a place in front of others, visited where it is needed
  front_visited : (place : Place) (left : List Place) (s : Seen)
      → each visit_place (place ∷ left) s ≡ each visit_place (in_front env blocks place left) s
  front_visited place left s = by (is_needed env blocks (has_scope env left) (scope_of env place.identifier)) refl
    where
      by : (b : Bool) → is_needed env blocks (has_scope env left) (scope_of env place.identifier) ≡ b
          → each visit_place (place ∷ left) s ≡ each visit_place (if b then place ∷ left else left) s
      by true needed = refl
      by false none = skipped left s place (scope_of env place.identifier) none

  -- places, visited by those that are left of them
  visited_by_rest : (places : List Place) (s : Seen)
      → each visit_place places s ≡ each visit_place (places_to_visit env blocks places) s
  visited_by_rest [] s = refl
  visited_by_rest (place ∷ places) s =
      same_rest (visit_place place s) _ _ (λ r. visited_by_rest places r.1)
      ∙ front_visited place (places_to_visit env blocks places) s

-- a context, visited by what is left of it at the id
module _ (env : Environment) (blocks : List ScopeId) where
  pub context_by_rest : (id : EvaluationOrder) (function : FunctionId) (places : List Place) (left : ContextToVisit)
      (contexts : List ContextToVisit) (s : Seen)
      → context_found function (slice_get env.functions function.0) ≡ Ok places
      → contexts ≡ contexts_to_visit env blocks → slice_get contexts function.0 ≡ Some left
      → each (visit_place env blocks id) places s ≡ each (visit_place env blocks id) (visited_at id left) s
  context_by_rest id function places left contexts s is all found =
      by (slice_get env.functions function.0) is
      (sym (slice_get-map (λ f. by_range env (places_to_visit env blocks f.context)) env.functions function.0)
      ∙ ap (λ listed. slice_get listed function.0) (sym all) ∙ found)
    where
      by : (f : Option HirFunction) → context_found function f ≡ Ok places
          → option_map (λ (f : HirFunction). by_range env (places_to_visit env blocks f.context)) f ≡ Some left
          → each (visit_place env blocks id) places s ≡ each (visit_place env blocks id) (visited_at id left) s
      by None is found = absurd (not_err places (BadName Functions function.0) (sym is))
      by (Some f) is found =
          ap (λ ps. each (visit_place env blocks id) ps s) (sym (Ok-injective f.context places is))
          ∙ visited_by_rest env blocks id f.context s
          ∙ visited_at_id env blocks id (places_to_visit env blocks f.context) s
          ∙ ap (λ context. each (visit_place env blocks id) (visited_at id context) s) (some_same found)

-- a loop over a context from its end on, which has met the scopes of the places that are left so far
module _ (env : Environment) (blocks met : List ScopeId) (left : List Place)
    (same : (scope : ScopeId) → is_among met scope ≡ has_scope env left scope) where
  alike : (scope : Result (Option ScopeId) Fault)
      → is_needed env blocks (is_among met) scope ≡ is_needed env blocks (has_scope env left) scope
  alike (Err fault) = refl
  alike (Ok None) = refl
  alike (Ok (Some scope)) = ap (λ b. is_err (range_of env scope) || (is_among blocks scope && not b)) (same scope)

  -- a place that isn't needed
  pub passed_over : (context : List Place) (at : ℕ) (default : Place) → 0 < at → at ≤ length context
      → left ≡ places_to_visit env blocks (drop at context)
      → is_needed env blocks (is_among met) (scope_of env (get_or context (at - 1) default).identifier) ≡ false
      → left ≡ places_to_visit env blocks (drop (at - 1) context)
  passed_over context at default some within is none =
      let place = get_or context (at - 1) default in
      let next : drop (at - 1) context ≡ place ∷ drop at context =
      drop_more context (at - 1) default (omega (arith, some, within))
      ∙ ap (λ n. place ∷ drop n context) (omega (arith, some)) in
      ap (λ (b : Bool). if b then place ∷ left else left) (sym none ∙ alike (scope_of env place.identifier))
      ∙ ap (in_front env blocks place) is
      ∙ ap (places_to_visit env blocks) (sym next)
