-- A pass that judges each scope block by a test decided by its rule: the log is that of the blocks that fail it.
use Rattle.std.proofs.Common.{◌≡◌, ◌∙◌, ◌≤◌, ℕ, zero, suc, Bool, true, false, Contains, List, []}
use Rattle.std.proofs.Common.{◌∷◌, ◌++◌, arith, get_or, if◌then◌else◌, length, map, not, refl, ap, subst}
use Rattle.std.proofs.lemmas.List.Elements.{All-map, Contains-get_or}
use Rattle.std.specs.List.{filter}
use Rattle.rc_names.proofs.NumbersLemmas.{ids_equivalence}
use Rattle.rc_names.specs.Numbers.{ScopeId, same_id, times}
use Rattle.rc_tree.proofs.DistinctLemmas.{at_least_once, times-append}
use Rattle.rc_tree.proofs.ListedOnce.{from_filter, into_filter, into_map}
use Rattle.rc_tree.specs.Decided.{AreSameScopes, IsDecidedBy, decided}
use Rattle.rc_tree.specs.ScopesIn.{scopes_in}
use Rattle.rc_tree.specs.Model.{ReactiveBlock}
use Rattle.rc_tree.specs.declared.fate.Fate.{Fate}
use Rattle.rc_tree.specs.declared.fate.Fate.TheVariants.{Kept}
use Rattle.rc_tree.specs.declared.fate.ScopeFate.{ScopeFate}

module _ {Block : Type 0} (scope_of : Block → ScopeId) (stays : Block → Bool) (fate : Fate) where
  -- the decisions on the blocks that don't stay
  abbrev pub tested : List Block → List ScopeFate
  tested blocks = map (λ block. record { scope = scope_of block; fate = fate }) (filter (λ block. not (stays block)) blocks)

  -- the rule: one of the scope's blocks doesn't stay
  abbrev pub Fails : List Block → ScopeId → Fate → Type 0
  Fails blocks scope other =
      (other ≡ fate) × ((block : Block) × Contains blocks block × (scope_of block ≡ scope) × (stays block ≡ false))

  -- each block stays or is decided
  split : (blocks : List Block) → AreSameScopes (map scope_of blocks)
      (map scope_of (filter stays blocks) ++ decided (tested blocks))
  split [] scope = refl
  split (x ∷ xs) scope = by (stays x) (split xs scope)
    where
      by : (b : Bool) → times scope (map scope_of xs)
          ≡ times scope (map scope_of (filter stays xs) ++ decided (tested xs))
          → times scope (map scope_of (x ∷ xs))
          ≡ times scope (map scope_of (if b then x ∷ filter stays xs else filter stays xs)
          ++ decided (map (λ block. record { scope = scope_of block; fate = fate })
          (if not b then x ∷ filter (λ block. not (stays block)) xs else filter (λ block. not (stays block)) xs)))
      by true rest = omega (arith, rest)
      by false rest =
          let a = times-append scope (map scope_of (filter stays xs)) (decided (tested xs)) in
          let b = times-append scope (map scope_of (filter stays xs)) (scope_of x ∷ decided (tested xs)) in
          omega (arith, rest, a, b)

  -- the pass decided by the rule
  pub decided_by_test : (before after : ReactiveBlock) (blocks : List Block) → ¬ (fate ≡ Kept)
      → AreSameScopes (scopes_in before) (map scope_of blocks)
      → AreSameScopes (scopes_in after) (map scope_of (filter stays blocks))
      → IsDecidedBy (Fails blocks) before after (tested blocks)
  decided_by_test before after blocks never had has = record {
    right = All-map (λ entry. Fails blocks entry.scope entry.fate)
        (λ block. record { scope = scope_of block; fate = fate }) (filter (λ block. not (stays block)) blocks)
        (λ place other below. (
          refl,
          failing (get_or (filter (λ block. not (stays block)) blocks) place other)
              (Contains-get_or (filter (λ block. not (stays block)) blocks) place other below),
        ));
    never_kept = All-map (λ entry. ¬ (entry.fate ≡ Kept))
        (λ block. record { scope = scope_of block; fate = fate }) (filter (λ block. not (stays block)) blocks)
        (λ place other below. never);
    all = λ scope some none other fails. by scope none fails.1;
    lost = λ scope.
        let a = had scope in
        let b = has scope in
        let c = split blocks scope in
        let d = times-append scope (map scope_of (filter stays blocks)) (decided (tested blocks)) in
        let e = times-append scope (scopes_in after) (decided (tested blocks)) in
        omega (arith, a, b, c, d, e);
  }
    where
      fails_if : (b : Bool) → not b ≡ true → b ≡ false
      fails_if true e = let bad : ⊥ = cc in absurd bad
      fails_if false e = refl

      failing : (block : Block) → Contains (filter (λ block. not (stays block)) blocks) block
          → (one : Block) × Contains blocks one × (scope_of one ≡ scope_of block) × (stays one ≡ false)
      failing block there =
          let it = from_filter (λ block. not (stays block)) blocks block there in
          (block, it.0, refl, fails_if (stays block) it.1)

      by : (scope : ScopeId) → times scope (decided (tested blocks)) ≡ 0
          → ((block : Block) × Contains blocks block × (scope_of block ≡ scope) × (stays block ≡ false)) → ⊥
      by scope none it =
          let there = into_filter (λ block. not (stays block)) blocks it.0 it.1 (ap not it.3) in
          let entry : ScopeFate = record { scope = scope_of it.0; fate = fate } in
          let told = into_map (λ (entry : ScopeFate). entry.scope) (tested blocks) entry
          (into_map (λ block. record { scope = scope_of block; fate = fate })
          (filter (λ block. not (stays block)) blocks) it.0 there) in
          let some = at_least_once scope (decided (tested blocks))
          (subst (λ id. Contains (decided (tested blocks)) id) it.2 told) in
          omega (arith, some, none)
