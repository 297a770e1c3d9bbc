-- How often a scope is in a list: scopes are distinct exactly if each is among them once at most.
use Rattle.std.proofs.Common.{◌≡◌, ◌≤◌, ◌+◌, Bool, true, false, List, [], ◌∷◌, ◌++◌, if◌then◌else◌, arith, refl, sym}
use Rattle.std.proofs.Common.{◌∙◌, ℕ, zero, suc, Contains, ap, get_or, length, subst}
use Rattle.std.proofs.lemmas.List.Elements.{Contains-append_right}
use Rattle.std.specs.List.{AllByRecursion, IsDistinct}
use Rattle.rc_names.specs.Numbers.{ScopeId, same_id, times}
use Rattle.rc_names.proofs.NumbersLemmas.{ids_equivalence, same_id-eq}

pub times-append : (s : ScopeId) (xs ys : List ScopeId) → times s (xs ++ ys) ≡ times s xs + times s ys
times-append s [] ys = omega arith
times-append s (x ∷ xs) ys = omega (arith, times-append s xs ys)

-- a scope that differs from all is none of them
none_times : (s : ScopeId) (xs : List ScopeId) → AllByRecursion (λ y. same_id s y ≡ false) xs → times s xs ≡ 0
none_times s [] none = refl
none_times s (x ∷ xs) none = rw none.0 (omega (arith, none_times s xs none.1))

-- the other way round
apart_of : (s : ScopeId) (xs : List ScopeId) → times s xs ≡ 0 → AllByRecursion (λ y. same_id s y ≡ false) xs
apart_of s [] none = tt
apart_of s (x ∷ xs) none = split (same_id s x) refl none (apart_of s xs)
  where
    split : (b : Bool) → same_id s x ≡ b → (if b then 1 else 0) + times s xs ≡ 0
        → (times s xs ≡ 0 → AllByRecursion (λ y. same_id s y ≡ false) xs)
        → AllByRecursion (λ y. same_id s y ≡ false) (x ∷ xs)
    split true is none later = absurd (omega arith)
    split false is none later = (is, later (omega arith))

-- scopes that differ are each among them once at most
pub at_most_once : (xs : List ScopeId) → IsDistinct same_id xs → (s : ScopeId) → times s xs ≤ 1
unfolding IsDistinct
at_most_once [] distinct s = omega arith
at_most_once (x ∷ xs) distinct s = split (same_id s x) refl (at_most_once xs distinct.1 s)
  where
    split : (b : Bool) → same_id s x ≡ b → times s xs ≤ 1 → (if b then 1 else 0) + times s xs ≤ 1
    split true is later =
        let same : s ≡ x = same_id-eq s x is in
        let none : times s xs ≡ 0 = subst (λ z. times z xs ≡ 0) (sym same) (none_times x xs distinct.0) in
        omega arith
    split false is later = omega (arith, later)

-- the other way round
pub differ : (xs : List ScopeId) → ((s : ScopeId) → times s xs ≤ 1) → IsDistinct same_id xs
unfolding IsDistinct
differ [] once = tt
differ (x ∷ xs) once =
    let own : same_id x x ≡ true = ids_equivalence.refl x in
    let here : (if same_id x x then 1 else 0) + times x xs ≤ 1 = once x in
    let none : times x xs ≡ 0 = omega (arith, rw own at here) in (
      apart_of x xs none,
      differ xs (λ s. let all : (if same_id s x then 1 else 0) + times s xs ≤ 1 = once s in
          omega (arith, all)),
    )

-- a scope of a list is there at least once
pub at_least_once : (scope : ScopeId) (scopes : List ScopeId) → Contains scopes scope → 1 ≤ times scope scopes
at_least_once scope [] there = absurd (omega (arith, there.1))
at_least_once scope (x ∷ xs) there = by (at_least_once scope xs) there.0 there.1 there.2
  where
    by : (Contains xs scope → 1 ≤ times scope xs) → (place : ℕ) → suc place ≤ length (x ∷ xs)
        → get_or (x ∷ xs) place scope ≡ scope → 1 ≤ times scope (x ∷ xs)
    by later zero below is =
        let same : same_id scope x ≡ true = ap (same_id scope) is ∙ ids_equivalence.refl scope in
        let one : ◌≡◌ {A = ℕ} (if same_id scope x then 1 else 0) 1 = ap (λ b. if b then 1 else 0) same in
        omega (arith, one)
    by later (suc place) below is = let rest = later (place, omega (arith, below), is) in omega (arith, rest)

-- the other way round: a scope that is at least once in a list is there
pub from_times : (scope : ScopeId) (scopes : List ScopeId) → 1 ≤ times scope scopes → Contains scopes scope
from_times scope [] some = absurd (omega (arith, some))
from_times scope (x ∷ xs) some = by (from_times scope xs) (same_id scope x) refl some
  where
    by : (1 ≤ times scope xs → Contains xs scope) → (same : Bool) → same_id scope x ≡ same
        → 1 ≤ (if same then 1 else 0) + times scope xs → Contains (x ∷ xs) scope
    by later true is enough = (0, omega arith, sym (same_id-eq scope x is))
    by later false is enough = Contains-append_right (x ∷ []) xs scope (later (omega (arith, enough)))
