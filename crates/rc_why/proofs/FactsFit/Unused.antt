-- The facts of an unused scope fit: it reassigns nothing, returns nothing, and declares no value itself.
use Rattle.std.proofs.Common.{◌≡◌, ◌∙◌, ℕ, true, false, List, [], ◌∷◌, Contains}
use Rattle.std.proofs.Common.{length, map, refl, subst, sym, true≢false}
use Rattle.std.proofs.lemmas.Bool.{or_parts}
use Rattle.std.specs.List.{IsDistinct, list_any}
use Rattle.std.specs.Option.{option_map_or}
use Rattle.std.specs.Prelude.{slice_get}
use Rattle.rc_hir.specs.Model.{DeclarationEntry, Environment}
use Rattle.rc_names.proofs.NumbersLemmas.{ids_equivalence}
use Rattle.rc_names.specs.Numbers.{ScopeId, same_id}
use Rattle.rc_tree.proofs.ListedOnce.{from_map, into_map, one_element}
use Rattle.rc_tree.specs.Model.{ReactiveBlock}
use Rattle.rc_tree.specs.ScopesIn.{HasScopesOnce}
use Rattle.rc_checks.proofs.ScopeBlocks.ContentsLemmas.{same_scopes}
use Rattle.rc_checks.specs.ScopeBlocks.{ScopeBlock, scope_blocks}
use Rattle.rc_checks.specs.UnusedScopes.{belongs_to, has_entry, has_own_output, is_used}
use Rattle.rc_checks.specs.UnusedScopes.{IsUnused as GivesNothing}
use Rattle.rc_merge.proofs.Elements.{any_in, in_contains}
use Rattle.rc_why.proofs.CountedLemmas.{none_counted, uncounted}
use Rattle.rc_why.specs.CountedReturns.{CountedBlock, counted_blocks, is_some_number, uncounted_block}
use Rattle.rc_why.specs.Fits.{IsUnused}
use Rattle.rc_why.specs.ReasonOf.{AreUnusedFacts}

no_entry : {X : Type 0} (xs : List X) → has_entry xs ≡ false → length xs ≡ 0
no_entry [] none = refl
no_entry (x ∷ xs) none = absurd (true≢false none)

-- no declaration belongs to the scope
none_declared : (scope : ScopeId) (entries : List DeclarationEntry) → list_any (belongs_to scope) entries ≡ false
    → ¬ Contains (map (λ (entry : DeclarationEntry). entry.value.scope) entries) scope
none_declared scope entries none there =
    let it = from_map (λ (entry : DeclarationEntry). entry.value.scope) entries scope there in
    let own : same_id it.0.value.scope scope ≡ true =
    subst (λ other. same_id it.0.value.scope other ≡ true) it.2 (ids_equivalence.refl it.0.value.scope) in
    true≢false (sym (any_in (belongs_to scope) entries it.0 (in_contains entries it.0 it.1) own) ∙ none)

module _ (env : Environment) (body : ReactiveBlock) (once : HasScopesOnce body) (scope : ScopeId) where
  -- the block that the rule judged is the one that is counted
  same_block : (returns : ℕ) (block : ScopeBlock) → Contains (scope_blocks body) block → block.scope ≡ scope
      → Contains (counted_blocks body) (record { scope = scope; returns = returns })
      → block ≡ record { scope = scope; returns = is_some_number returns }
  same_block returns block judged of counted =
      let own : CountedBlock = record { scope = scope; returns = returns } in
      let there = subst (λ blocks. Contains blocks (uncounted_block own)) (sym (uncounted body))
      (into_map uncounted_block (counted_blocks body) own counted) in
      one_element same_id ids_equivalence.refl (λ (it : ScopeBlock). it.scope) (scope_blocks body)
      (subst (IsDistinct same_id) (same_scopes body) once) block (uncounted_block own) judged there of

  pub unused_fits : (declared_by : List ScopeId) (reassignments returns : ℕ) → GivesNothing env body scope
      → AreUnusedFacts env body scope declared_by reassignments returns
      → IsUnused scope declared_by reassignments returns
  unused_fits declared_by reassignments returns (block, judged, of, nothing) facts =
      let same = same_block returns block judged of facts.returned in
      let none : is_used facts.own scope (is_some_number returns) ≡ false =
      subst (λ found. option_map_or (λ own. is_used own scope (is_some_number returns)) found false ≡ false) facts.here
      (subst (λ (it : ScopeBlock). option_map_or (λ own. is_used own it.scope it.returns)
      (slice_get env.scopes it.scope.0) false ≡ false) same nothing) in
      let parts = or_parts (is_some_number returns) (has_own_output facts.own scope) none in
      let outputs = or_parts (has_entry facts.own.reassignments)
      (list_any (belongs_to scope) facts.own.declarations) parts.1 in
      record {
        reassigned = facts.reassigned ∙ no_entry facts.own.reassignments outputs.0;
        returned = none_counted returns parts.0;
        declared = subst (λ scopes. ¬ Contains scopes scope) (sym facts.declared)
            (none_declared scope facts.own.declarations outputs.1);
      }
