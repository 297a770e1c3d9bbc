-- What the walk memoizes is in the greatest set.
use Rattle.std.proofs.Common.{◌≡◌, ◌∙◌, ◌⊎◌, inl, inr, Bool, true, false, List, Some, Contains, refl, subst, sym}
use Rattle.std.specs.Prelude.{◌||◌}
use Rattle.rc_names.specs.Numbers.{DeclarationId, ScopeId, same_id}
use Rattle.rc_names.proofs.NumbersLemmas.{same_id-eq}
use Rattle.rc_memo.specs.declared.level.MemoizationLevel.{MemoizationLevel}
use Rattle.rc_memo.specs.declared.level.MemoizationLevel.TheVariants.{Memoized, Conditional, Unmemoized, Never}
use Rattle.rc_memo.specs.declared.record.MemoNode.{MemoNode}
use Rattle.rc_memo.specs.declared.record.MemoRecord.{MemoRecord}
use Rattle.rc_escape.specs.MemoWalk.{memoizes, node_of, nothing_met, Progress, with_memoized, VisitsName, absent, again}
use Rattle.rc_escape.specs.MemoWalk.{first_time, VisitsNames, no_names, next_name, DecidesNode, passes, memoizes_it}
use Rattle.rc_escape.specs.MemoWalk.{TakesScopes, no_scopes, without_record, taken_before, takes_it}
use Rattle.rc_escape.specs.MemoBounds.{HasScopeDependency, CanBeReached, CanBeForced, IsInGreatestSet}
use Rattle.rc_escape.specs.MemoBounds as bounds
use Rattle.rc_escape.proofs.ListLemmas.{Contains-first, Contains-later}

-- each memoized name is in the greatest set
abbrev AreInGreatest : MemoRecord → Progress → Type 0
AreInGreatest r s = (d : DeclarationId) → s.memoized d ≡ true → IsInGreatestSet r d

-- one of the names is in the greatest set
record HasGreatest (r : MemoRecord) (ds : List DeclarationId) : Type 0 where
  name : DeclarationId
  among : Contains ds name
  greatest : IsInGreatestSet r name

or_true : (a b : Bool) → (a || b) ≡ true → (a ≡ true) ⊎ (b ≡ true)
or_true true b h = inl refl
or_true false b h = inr h

-- a node that is decided as memoized
decided : (r : MemoRecord) (d : DeclarationId) (n : MemoNode) (l : MemoizationLevel) (f c : Bool) → CanBeReached r d
    → node_of r d ≡ Some n → n.level ≡ l
    → (f ≡ true → CanBeForced r d) → (c ≡ true → HasGreatest r n.dependencies) → memoizes l f c ≡ true
    → IsInGreatestSet r d
decided r d n Memoized f c reached at level forced needs h = bounds.memoized reached at level
decided r d n Conditional f c reached at level forced needs h = elim (or_true c f h) [
  | inl e ↦ bounds.conditional_needed reached at level (needs e).among (needs e).greatest
  | inr e ↦ bounds.conditional_forced reached at level (forced e)
]
decided r d n Unmemoized f c reached at level forced needs h = bounds.unmemoized_forced reached at level (forced h)
decided r d n Never f c reached at level forced needs h = cc

one_more : (r : MemoRecord) (d : DeclarationId) (s : Progress) → IsInGreatestSet r d → AreInGreatest r s
    → AreInGreatest r (with_memoized s d)
one_more r d s greatest before e h = elim (or_true (same_id e d) (s.memoized e) h) [
  | inl same ↦ subst (IsInGreatestSet r) (sym (same_id-eq e d same)) greatest
  | inr old ↦ before e old
]

mutual
  greatest_name : {r : MemoRecord} {d : DeclarationId} {f a : Bool} {s s1 : Progress} → VisitsName r d f s s1 a
      → CanBeReached r d → (f ≡ true → CanBeForced r d) → AreInGreatest r s
      → AreInGreatest r s1 × (a ≡ true → IsInGreatestSet r d)
  greatest_name (absent none) reached forced before = (before, λ h. cc)
  greatest_name {d = d} (again at seen is) reached forced before = (before, λ h. before d (sym is ∙ h))
  greatest_name {r} {d} {f} {a}
      (first_time {node = n} {needs_one = c} at seen visits is decides) reached forced before =
      let inner = greatest_names visits (λ e i. bounds.CanBeReached.by_dependency reached at i) (λ h. cc) before in
      let greatest : a ≡ true
      → IsInGreatestSet r d = λ h. decided r d n n.level f c reached at refl forced inner.1 (sym is ∙ h) in
      (greatest_decides decides at greatest inner.0, greatest)

  greatest_names : {r : MemoRecord} {ds : List DeclarationId} {f a : Bool} {s s1 : Progress} → VisitsNames r ds f s s1 a
      → ((e : DeclarationId) → Contains ds e → CanBeReached r e)
      → (f ≡ true → (e : DeclarationId) → Contains ds e → CanBeForced r e) → AreInGreatest r s
      → AreInGreatest r s1 × (a ≡ true → HasGreatest r ds)
  greatest_names no_names reached forced before = (before, λ h. cc)
  greatest_names (next_name {name = d} {names = ds} {first = a} {rest = b} visit visits is) reached forced before =
      let first =
      greatest_name visit (reached d (Contains-first d ds)) (λ h. forced h d (Contains-first d ds)) before in
      let rest =
      greatest_names visits (λ e i. reached e (Contains-later d e ds i))
      (λ h e i. forced h e (Contains-later d e ds i)) first.0 in (
        rest.0,
        λ h. elim (or_true a b (sym is ∙ h)) [
          | inl e ↦ record { name = d; among = Contains-first d ds; greatest = first.1 e }
          | inr e ↦ let w = rest.1 e in
              record { name = w.name; among = Contains-later d w.name ds w.among; greatest = w.greatest }
        ],
      )

  greatest_decides : {r : MemoRecord} {d : DeclarationId} {n : MemoNode} {a : Bool} {s s1 : Progress}
      → DecidesNode r d n a s s1 → node_of r d ≡ Some n → (a ≡ true → IsInGreatestSet r d) → AreInGreatest r s
      → AreInGreatest r s1
  greatest_decides passes at greatest before = before
  greatest_decides {r} {d} {s = s} (memoizes_it takes) at greatest before =
      greatest_takes takes at (greatest refl) (λ c i. i) (one_more r d s (greatest refl) before)

  greatest_takes : {r : MemoRecord} {d : DeclarationId} {n : MemoNode} {cs : List ScopeId} {s s1 : Progress}
      → TakesScopes r cs s s1 → node_of r d ≡ Some n → IsInGreatestSet r d
      → ((c : ScopeId) → Contains cs c → Contains n.scopes c) → AreInGreatest r s → AreInGreatest r s1
  greatest_takes no_scopes at greatest among before = before
  greatest_takes (without_record {scope = k} {scopes = ks} none rest) at greatest among before =
      greatest_takes rest at greatest (λ c i. among c (Contains-later k c ks i)) before
  greatest_takes (taken_before {scope = k} {scopes = ks} has taken rest) at greatest among before =
      greatest_takes rest at greatest (λ c i. among c (Contains-later k c ks i)) before
  greatest_takes {r} {n = n}
      (takes_it {scope = k} {scopes = ks} {names = ds} has untaken visits rest) at greatest among before =
      let depends : (e : DeclarationId) → Contains ds e → HasScopeDependency r n e =
      λ e i. record { scope = k; names = ds; of_node = among k (Contains-first k ks); recorded = has; among = i } in
      let inner =
      greatest_names visits (λ e i. bounds.by_scope (bounds.by_memoized greatest at (depends e i)))
      (λ h e i. bounds.by_memoized greatest at (depends e i)) before in
      greatest_takes rest at greatest (λ c i. among c (Contains-later k c ks i)) inner.0

-- what is memoized at the end is in the greatest set
pub memoized_is_in_greatest : {r : MemoRecord} {t : Progress} {a : Bool}
    → VisitsNames r r.escaping false nothing_met t a → (d : DeclarationId) → t.memoized d ≡ true → IsInGreatestSet r d
memoized_is_in_greatest walk = (greatest_names walk (λ e i. bounds.CanBeReached.escapes i) (λ h. cc) (λ d h. cc)).0
