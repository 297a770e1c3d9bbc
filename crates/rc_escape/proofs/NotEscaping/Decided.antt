-- The pass on scopes that don't escape decided by its rule: of the scopes whose blocks give way, and of no others.
use Rattle.std.proofs.Common.{◌≡◌, ◌⊎◌, inl, inr, ◌+◌, ℕ, Bool, true, false, List, [], ◌∷◌, arith, if◌then◌else◌, map, not}
use Rattle.std.proofs.Common.{ap, refl, subst, sym}
use Rattle.std.proofs.lemmas.List.Elements.{All-map, filter_passes}
use Rattle.std.specs.List.{filter}
use Rattle.rc_hir.specs.Model.{Environment}
use Rattle.rc_names.proofs.NumbersLemmas.{same_id-eq}
use Rattle.rc_names.specs.Numbers.{DeclarationId, ScopeId, same_id, times}
use Rattle.rc_tree.proofs.DistinctLemmas.{times-append}
use Rattle.rc_tree.specs.Decided.{IsDecidedBy, decided}
use Rattle.rc_tree.specs.Model.{ReactiveBlock, ReactiveFunction}
use Rattle.rc_tree.specs.ScopesIn.{scopes_in}
use Rattle.rc_tree.specs.declared.fate.Fate.TheVariants.{Kept, NotEscaping}
use Rattle.rc_tree.specs.declared.fate.ScopeFate.{ScopeFate}
use Rattle.rc_escape.specs.NotEscaping.{HasDecidedNotEscaping, not_escaping_rule}
use Rattle.rc_escape.specs.Outputs.{dissolved_fates, is_dissolved, not_escaping, staying_scopes}

module _ (p : ScopeId → Bool) (scope : ScopeId) where
  -- a scope that passes is in the filtered list as often as before, and no other is
  times-filter : (xs : List ScopeId) → times scope (filter p xs) ≡ (if p scope then times scope xs else 0)
  times-filter [] = by (p scope)
    where
      by : (b : Bool) → ◌≡◌ {A = ℕ} 0 (if b then 0 else 0)
      by true = refl
      by false = refl
  times-filter (x ∷ xs) = by (p x) (p scope) (own (same_id scope x) refl) (times-filter xs)
    where
      -- the element is another scope, or both pass alike
      own : (b : Bool) → same_id scope x ≡ b → (◌≡◌ {A = ℕ} (if same_id scope x then 1 else 0) 0) ⊎ (p x ≡ p scope)
      own true is = inr (ap p (sym (same_id-eq scope x is)))
      own false is = inl (ap (λ b. if b then 1 else 0) is)

      by : (here passes : Bool) → (◌≡◌ {A = ℕ} (if same_id scope x then 1 else 0) 0) ⊎ (here ≡ passes)
          → times scope (filter p xs) ≡ (if passes then times scope xs else 0)
          → times scope (if here then x ∷ filter p xs else filter p xs)
          ≡ (if passes then times scope (x ∷ xs) else 0)
      by true true either rest = omega (arith, rest)
      by false false either rest = rest
      by true false (inl other) rest = omega (arith, other, rest)
      by false true (inl other) rest = omega (arith, other, rest)
      by true false (inr same) rest = absurd (let bad : ⊥ = cc in bad)
      by false true (inr same) rest = absurd (let bad : ⊥ = cc in bad)

-- one of two
halves : (b : Bool) (n : ℕ) → (if not b then n else 0) + (if b then n else 0) ≡ n
halves true n = omega arith
halves false n = omega arith

same_scopes : (scopes : List ScopeId) → decided (map not_escaping scopes) ≡ scopes
same_scopes [] = refl
same_scopes (scope ∷ scopes) = ap (λ others. scope ∷ others) (same_scopes scopes)

module _ (env : Environment) (set : List DeclarationId) (before after : ReactiveBlock)
    (left : scopes_in after ≡ staying_scopes env set (scopes_in before)) where
  abbrev gone : List ScopeId
  gone = filter (is_dissolved env set) (scopes_in before)

  dissolved_by_rule : IsDecidedBy (not_escaping_rule env set) before after
      (dissolved_fates env set (scopes_in before))
  dissolved_by_rule = record {
    right = All-map (λ entry. not_escaping_rule env set entry.scope entry.fate) not_escaping gone
        (λ place other below. (refl, filter_passes (is_dissolved env set) (scopes_in before) place other below));
    never_kept = All-map (λ (entry : ScopeFate). ¬ (entry.fate ≡ Kept)) not_escaping gone
        (λ place other below. never);
    all = λ scope some none fate rule.
        let a = times-filter (is_dissolved env set) scope (scopes_in before) in
        let b = ap (λ b. if b then times scope (scopes_in before) else 0) rule.1 in
        let c = ap (times scope) (same_scopes gone) in
        omega (arith, some, none, a, b, c);
    lost = λ scope.
        let a = times-append scope (scopes_in after) (decided (map not_escaping gone)) in
        let b = ap (times scope) left in
        let c = ap (times scope) (same_scopes gone) in
        let d = times-filter (λ scope. not (is_dissolved env set scope)) scope (scopes_in before) in
        let e = times-filter (is_dissolved env set) scope (scopes_in before) in
        let f = halves (is_dissolved env set scope) (times scope (scopes_in before)) in
        omega (arith, a, b, c, d, e, f);
  }
    where
      never : NotEscaping ≡ Kept → ⊥
      never e = cc

pub not_escaping_decided : (env : Environment) (func : ReactiveFunction) (after : ReactiveBlock) (log : List ScopeFate)
    (is : HasDecidedNotEscaping env func after log)
    → IsDecidedBy (not_escaping_rule env is.without.set) func.body after log
not_escaping_decided env func after log is =
    subst (IsDecidedBy (not_escaping_rule env is.without.set) func.body after) (sym is.told)
    (dissolved_by_rule env is.without.set func.body after is.without.left)
