-- Where no scope has a block, the pass on dependencies leaves the environment as it is, if all operands can be read:
-- each dependency stays, since no block of its scope ends.
use Rattle.std.proofs.Common.{◌≡◌, ◌∙◌, ◌+◌, ℕ, zero, suc, Bool, true, false, List, [], ◌∷◌, ◌++◌, Option, None, Some}
use Rattle.std.proofs.Common.{Result, Ok, Err, All, IsOk, ap, arith, if◌then◌else◌, refl, slice_get, sym}
use Rattle.std.proofs.lemmas.List.Elements.{All-weaker}
use Rattle.std.specs.List.{filter, flat_map}
use Rattle.std.specs.Option.{option_map_or}
use Rattle.rc_checks.specs.Membership.{IsInside}
use Rattle.rc_flow.specs.Collected.{Recorded, declaration_steps, declared_steps, is_primitive, joined, key_follows}
use Rattle.rc_flow.specs.Collected.{marked, place_steps, pruned_scope_steps, recorded_parts, recorded_values}
use Rattle.rc_flow.specs.Collected.{step_by_type, written}
use Rattle.rc_flow.specs.Flows.{flows_in}
use Rattle.rc_flow.specs.ReactiveDependencies.{HasReactiveDependencies, KeepReactive}
use Rattle.rc_flow.specs.declared.step.Step.{Step}
use Rattle.rc_flow.specs.declared.step.Step.TheVariants.{Carries, Ends, Marks}
use Rattle.rc_hir.specs.Environment.{type_of}
use Rattle.rc_hir.specs.Model.{DeclarationEntry, Environment, Fault, HirType, Place}
use Rattle.rc_hir.specs.Model.{ReactiveScope, ReactiveScopeDependency}
use Rattle.rc_hir.specs.Operands.{operands}
use Rattle.rc_hir.specs.TerminalOperands.{perhaps_place}
use Rattle.rc_hir.specs.Types.{is_ref_type}
use Rattle.rc_names.specs.Numbers.{EvaluationOrder, ScopeId}
use Rattle.rc_runs.proofs.AllLemmas.{All-left, All-right}
use Rattle.rc_tree.proofs.CollectedRelated.{RelatedParts, RelatedValues, collected_related, rows_related}
use Rattle.rc_tree.proofs.CollectedRelated.{values_related_if}
use Rattle.rc_tree.specs.Model.{ReactiveBlock}
use Rattle.rc_tree.specs.ScopesIn.{scopes_in}
use Rattle.rc_tree.specs.Step.{bind}
use Rattle.rc_tree.specs.Visits.{Visit, Visits, of_operands, visits_of, visits_of_parts, visits_of_values}
use Rattle.rc_pipe.proofs.FlowEnds.{ended, flows_end, without_first}
use Rattle.rc_pipe.specs.Passes.{AreInside}

-- the steps of a part are there, and no scope block ends in them
abbrev Goes : Recorded → Type 0
Goes recorded = (steps : List Step) × (recorded ≡ Ok steps) × (ended steps ≡ [])

-- so it is where each operand can be read, whatever scopes are around
abbrev IsFollowed : Recorded → Visits → Type 0
IsFollowed recorded visits = (around : List ScopeId) → All IsOk (visits around) → Goes recorded

nothing : Goes (Ok [])
nothing = ([], refl, refl)

after : (first second : Recorded) → Goes first → Goes second → Goes (joined first second)
after first second go on =
    (go.0 ++ on.0, (λ i. joined (go.1 i) (on.1 i)), without_first go.0 on.0 go.2 ∙ on.2)

mark_none : (place : Place) → ended (place_steps place) ≡ []
mark_none place = if_marked place.reactive
  where
    if_marked : (b : Bool) → ended (if b then Marks place.identifier ∷ [] else []) ≡ []
    if_marked true = refl
    if_marked false = refl

marks_none : (places : List Place) → ended (flat_map place_steps places) ≡ []
marks_none [] = refl
marks_none (place ∷ places) = without_first (place_steps place) _ (mark_none place) ∙ marks_none places

places_go : (places : List Place) → Goes (marked places)
places_go places = (flat_map place_steps places, refl, marks_none places)

operands_go : (id : EvaluationOrder) (read : Result (List Place) Fault)
    → IsFollowed (bind read marked) (of_operands id read)
operands_go id (Ok places) around all = places_go places
operands_go id (Err fault) around all =
    let ok : false ≡ true = all 0 (Err fault) (omega arith) in absurd (let bad : ⊥ = cc in bad)

-- no scope block ends where a pruned one declares names
by_tests : (entry : DeclarationEntry) (primitive ref : Bool)
    → ended (if primitive then [] else (if ref then key_follows entry ∷ [] else Marks entry.key ∷ [])) ≡ []
by_tests entry true ref = refl
by_tests entry false true = refl
by_tests entry false false = refl

by_type : (entry : DeclarationEntry) (type : Option HirType) → ended (step_by_type entry type) ≡ []
by_type entry None = refl
by_type entry (Some type) = by_tests entry (is_primitive type) (is_ref_type type)

declared : (env : Environment) (entries : List DeclarationEntry)
    → ended (flat_map (declaration_steps env) entries) ≡ []
declared env [] = refl
declared env (entry ∷ entries) =
    without_first (declaration_steps env entry) _ (by_type entry (type_of env entry.value.identifier))
    ∙ declared env entries

-- so none ends at any place
none_at : (steps : List Step) (place : ℕ) (scope : ScopeId) → ended steps ≡ []
    → slice_get steps place ≡ Some (Ends scope) → ⊥
none_at [] place scope none at = cc
none_at (Marks name ∷ steps) zero scope none at = cc
none_at (Marks name ∷ steps) (suc place) scope none at = none_at steps place scope none at
none_at (Carries from to ∷ steps) zero scope none at = cc
none_at (Carries from to ∷ steps) (suc place) scope none at = none_at steps place scope none at
none_at (Ends other ∷ steps) place scope none at = cc

filter_all : (dependencies : List ReactiveScopeDependency) → filter (λ dependency. true) dependencies ≡ dependencies
filter_all [] = refl
filter_all (x ∷ xs) = ap (λ l. x ∷ l) (filter_all xs)

module _ (env : Environment) where
  scope_none : (scope : Option ReactiveScope) → ended (option_map_or (declared_steps env) scope []) ≡ []
  scope_none None = refl
  scope_none (Some scope) = declared env scope.declarations

  pruned_scope_goes : (scope : ScopeId) → Goes (Ok (pruned_scope_steps env scope))
  pruned_scope_goes scope = (pruned_scope_steps env scope, refl, scope_none (slice_get env.scopes scope.0))

  values_followed : RelatedValues IsFollowed (recorded_values env) (visits_of_values env.functions)
  values_followed = record {
    joined = record {
      nothing = λ around all. nothing;
      both = λ first second x y go on around all. after first second
          (go around (All-left IsOk (x around) (y around) all)) (on around (All-right IsOk (x around) (y around) all));
    };
    instruction = λ id x. operands_go id (operands env.functions x);
    target = λ id x around all. nothing;
    row = λ x inside visits go around all. after (marked (written x)) inside (places_go (written x)) (go around all);
  }

  parts_followed : RelatedParts IsFollowed (recorded_parts env) (visits_of_parts env.functions)
  parts_followed = record {
    joined = values_followed.joined;
    row = rows_related IsFollowed (recorded_values env) (visits_of_values env.functions) values_followed;
    value = values_related_if IsFollowed (recorded_values env) (visits_of_values env.functions) values_followed;
    place = λ id x around all. places_go (perhaps_place x);
    returned = λ id x around all. (place_steps x, refl, mark_none x);
    jump = λ target around all. nothing;
    label = λ label around all. nothing;
    scope = λ scope inside visits go around all. go (scope ∷ around) all;
    pruned_scope = λ scope inside visits go around all. after inside (Ok (pruned_scope_steps env scope)) (go around all)
        (pruned_scope_goes scope);
  }

  read : (scopes : List ScopeId) (visit : Visit) → IsInside env scopes visit → IsOk visit
  read scopes (Ok operand) is = refl
  read scopes (Err fault) is = absurd (let bad : ⊥ = cc in bad)

  -- each scope keeps all its dependencies
  all_stay : (steps : List Step) (number : ℕ) (scopes : List ReactiveScope) → ended steps ≡ []
      → KeepReactive env steps number scopes scopes
  all_stay steps number [] none = tt
  all_stay steps number (scope ∷ scopes) none = (
    record {
      stays = λ dependency. true;
      tells = λ dependency. ((λ is place at. absurd (none_at steps place _ none at)), (λ stays. refl));
      kept = ap (λ dependencies. record scope { dependencies = dependencies }) (sym (filter_all scope.dependencies));
    },
    all_stay steps (number + 1) scopes none,
  )

  pub no_dependencies : (body : ReactiveBlock) → scopes_in body ≡ [] → AreInside env body
      → HasReactiveDependencies body env env
  no_dependencies body none inside =
      let all = collected_related IsFollowed (recorded_parts env) (visits_of_parts env.functions) parts_followed body []
      (All-weaker (IsInside env (scopes_in body)) IsOk (read (scopes_in body)) (visits_of env.functions body) inside)
      in
      let flows = flows_in env body in
      record {
        collecting = all.0;
        recorded = all.1;
        others = refl;
        scopes = all_stay (all.0 ++ flows) 0 env.scopes
            (without_first all.0 flows all.2 ∙ flows_end env body ∙ none);
      }
