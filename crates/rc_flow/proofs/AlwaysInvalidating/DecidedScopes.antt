-- The pass decided by its rule: of the scopes that always invalidate, and of no others.
use Rattle.std.proofs.Common.{◌≡◌, ◌∙◌, ◌+◌, ◌≤◌, Contains, List, [], ◌∷◌, arith, get_or, refl, sym, ap, subst}
use Rattle.std.proofs.lemmas.List.Elements.{All-map, Contains-get_or}
use Rattle.rc_hir.specs.Model.{Environment}
use Rattle.rc_names.specs.Numbers.{ScopeId, times}
use Rattle.rc_tree.proofs.DistinctLemmas.{at_least_once, times-append}
use Rattle.rc_tree.specs.Decided.{IsDecidedBy, decided}
use Rattle.rc_tree.specs.Model.{ReactiveBlock}
use Rattle.rc_tree.specs.ScopesIn.{scopes_in}
use Rattle.rc_tree.specs.declared.fate.Fate.TheVariants.{AlwaysInvalidating, Kept}
use Rattle.rc_tree.specs.declared.fate.ScopeFate.{ScopeFate}
use Rattle.rc_flow.proofs.AlwaysInvalidating.LeftScopes.{invalidates, invalidates_not, left_or_dropped}
use Rattle.rc_flow.specs.AlwaysInvalidating.{invalidating_rule, IsInvalidating, PrunesInvalidating, always_invalidating}
use Rattle.rc_flow.specs.AlwaysInvalidating.{dropped_scopes}

pub same_scopes : (scopes : List ScopeId) → decided (always_invalidating scopes) ≡ scopes
same_scopes [] = refl
same_scopes (x ∷ xs) = ap (λ rest. x ∷ rest) (same_scopes xs)

not_kept : AlwaysInvalidating ≡ Kept → ⊥
not_kept e = cc

-- where each scope has one block at most
pub invalidating_decided : (env : Environment) (before after : ReactiveBlock) (log : List ScopeFate)
    → PrunesInvalidating env before after log → ((scope : ScopeId) → times scope (scopes_in before) ≤ 1)
    → IsDecidedBy (invalidating_rule env before) before after log
invalidating_decided env before after log prunes once =
    subst (IsDecidedBy (invalidating_rule env before) before after) (sym prunes.told) (record {
      right = All-map (λ entry. invalidating_rule env before entry.scope entry.fate) fate dropped
          (λ place other below.
          (refl, right (get_or dropped place other) (Contains-get_or dropped place other below)));
      never_kept = All-map (λ entry. ¬ (entry.fate ≡ Kept)) fate dropped (λ place other below. not_kept);
      all = λ scope some none kind holds.
          let parts = each scope in
          invalidates_not env before after prunes.without scope (omega (arith, some, none, parts)) holds.1;
      lost = λ scope.
          let parts = each scope in
          let both = times-append scope (scopes_in after) (decided (always_invalidating dropped)) in
          omega (arith, parts, both);
    })
  where
    dropped : List ScopeId
    dropped = dropped_scopes (scopes_in before) prunes.without.answers

    fate : ScopeId → ScopeFate
    fate scope = record { scope = scope; fate = AlwaysInvalidating }

    each : (scope : ScopeId) → times scope (scopes_in before)
        ≡ times scope (scopes_in after) + times scope (decided (always_invalidating dropped))
    each scope = left_or_dropped env before after prunes.without scope
        ∙ ap (λ l. times scope (scopes_in after) + times scope l) (sym (same_scopes dropped))

    right : (scope : ScopeId) → Contains dropped scope → IsInvalidating env before scope
    right scope there =
        let some = at_least_once scope dropped there in
        let parts = left_or_dropped env before after prunes.without scope in
        let most = once scope in
        invalidates env before after prunes.without scope (omega (arith, some, parts)) (omega (arith, some, parts, most))
