-- Fates that are listed from an ordered set of scopes, by what was decided.
use Rattle.std.proofs.Common.{◌≡◌, ◌∙◌, ◌↔◌, ◌<◌, ◌+◌, ℕ, Bool, true, false, List, [], ◌∷◌, ◌++◌, append_assoc, map, get_or}
use Rattle.std.proofs.Common.{Option, None, Some, ap, subst, refl, sym, drop, length, All, Contains, if◌then◌else◌}
use Rattle.std.proofs.lemmas.List.{map-append, drop_more}
use Rattle.std.proofs.lemmas.List.Elements.{All-push}
use Rattle.std.specs.Ordering.{nat_cmp}
use Rattle.std.specs.List.Sorted.{IsStrictlyIncreasing}
use Rattle.std.specs.BTreeSet.{BTreeSet, IsFromIterResult}
use Rattle.std.specs.Map.{lookup}
use Rattle.std.proofs.lemmas.Cmp.{nat_cmp_total}
use Rattle.std.proofs.lemmas.Map.Keys.{IsStrictlyIncreasing-from_sorted}
use Rattle.std.proofs.lemmas.Map.Lookups.{exact_unsigned}
use Rattle.std.proofs.lemmas.Map.Views.{btree_set_contains_from_list, btree_set_contains_iff}
use Rattle.indexmap.specs.IndexMap.{insert_entry}
use Rattle.rc_names.proofs.KeyedLemmas.{lookup-insert_there, lookup-insert_other}
use Rattle.rc_names.proofs.NumbersLemmas.{ids_equivalence, same_id-eq}
use Rattle.rc_names.specs.Numbers.{ScopeId, same_id, to_id}
use Rattle.rc_tree.specs.inside.DecisionLogs.{fate_by}
use Rattle.rc_tree.specs.declared.fate.Fate.{Fate}
use Rattle.rc_tree.specs.declared.fate.Fate.TheVariants.{Kept}
use Rattle.rc_tree.specs.declared.fate.ScopeFate.{ScopeFate}
use Rattle.rc_tree.proofs.ListedOnce.{from_map, into_map}
use Rattle.rc_pipe.specs.Fates.{listed_scopes}
use Rattle.rc_pipe.specs.inside.ListedFates.{decided_or, noted, noted_if, scopes_of}

-- the numbers of the scopes of numbers are these numbers
numbers_again : (numbers : List ℕ) → map (λ (scope : ScopeId). scope.0) (scopes_of numbers) ≡ numbers
numbers_again [] = refl
numbers_again (number ∷ numbers) = ap (λ l. number ∷ l) (numbers_again numbers)

-- the numbers of a set's scopes rise
pub set_rises : (scopes : List ScopeId) (set : BTreeSet ℕ)
    → IsFromIterResult nat_cmp (map (λ scope. scope.0) scopes) set
    → IsStrictlyIncreasing (map (λ scope. scope.0) (scopes_of set.keys))
set_rises scopes set made =
    subst IsStrictlyIncreasing (sym (numbers_again set.keys)) (IsStrictlyIncreasing-from_sorted _ made.1)

-- a scope is one of these exactly if its number is one of theirs
among_numbers : (scopes : List ScopeId) (scope : ScopeId)
    → Contains (map (λ s. s.0) scopes) scope.0 ↔ Contains scopes scope
among_numbers scopes scope = (
  λ h. let found = from_map (λ (s : ScopeId). s.0) scopes scope.0 h in
      subst (λ s. Contains scopes s) (ap to_id found.2) found.1,
  into_map (λ (s : ScopeId). s.0) scopes scope,
)

among_scopes : (numbers : List ℕ) (scope : ScopeId) → Contains (scopes_of numbers) scope ↔ Contains numbers scope.0
among_scopes numbers scope =
    let same = among_numbers (scopes_of numbers) scope in (
      λ h. subst (λ l. Contains l scope.0) (numbers_again numbers) (same.1 h),
      λ h. same.0 (subst (λ l. Contains l scope.0) (sym (numbers_again numbers)) h),
    )

-- a set has exactly the numbers of the scopes from which it was made
pub set_has : (scopes : List ScopeId) (set : BTreeSet ℕ) → IsFromIterResult nat_cmp (map (λ scope. scope.0) scopes) set
    → (scope : ScopeId) → Contains (scopes_of set.keys) scope ↔ Contains scopes scope
set_has scopes set made scope =
    let here = btree_set_contains_iff nat_cmp_total exact_unsigned set scope.0 in
    let there = btree_set_contains_from_list nat_cmp_total exact_unsigned (map (λ s. s.0) scopes) set made scope.0 in
    let kept = among_scopes set.keys scope in
    let own = among_numbers scopes scope in
    (λ h. own.0 (there.0 (here.1 (kept.0 h))), λ h. kept.1 (here.0 (there.1 (own.1 h))))

-- one more scope, with its fate by what was decided
abbrev pub HasFate : List (ScopeId × Fate) → ScopeFate → Type 0
HasFate decided entry = entry.fate ≡ decided_or (lookup (same_id entry.scope) decided) Kept

pub fates_more : (decided : List (ScopeId × Fate)) (fates : List ScopeFate) (entry : ScopeFate) (scope : ScopeId)
    (rest keys : List ScopeId) → entry.scope ≡ scope → HasFate decided entry
    → (listed_scopes fates ++ scope ∷ rest ≡ keys) × All (HasFate decided) fates
    → (listed_scopes (fates ++ entry ∷ []) ++ rest ≡ keys) × All (HasFate decided) (fates ++ entry ∷ [])
fates_more decided fates entry scope rest keys same has given = (
  ap (λ l. l ++ rest) (map-append (λ e. e.scope) fates (entry ∷ []))
      ∙ append_assoc (listed_scopes fates) (entry.scope ∷ []) rest ∙ ap (λ s. listed_scopes fates ++ s ∷ rest) same
      ∙ given.0,
  All-push (HasFate decided) fates entry given.1 has,
)

-- what is decided so far counts, and after that the rest of the log
abbrev pub Follows : List (ScopeId × Fate) → List ScopeFate → List ScopeFate → Type 0
Follows decided rest log =
    (scope : ScopeId) → decided_or (lookup (same_id scope) decided) (fate_by rest scope) ≡ fate_by log scope

-- the next entry changes nothing if its scope is decided already
pub passed_entry : (decided : List (ScopeId × Fate)) (entry : ScopeFate) (rest log : List ScopeFate) (fate : Fate)
    → lookup (same_id entry.scope) decided ≡ Some fate → Follows decided (entry ∷ rest) log → Follows decided rest log
passed_entry decided entry rest log fate there follows scope = by (same_id scope entry.scope) refl ∙ follows scope
  where
    by : (same : Bool) → same_id scope entry.scope ≡ same
        → decided_or (lookup (same_id scope) decided) (fate_by rest scope)
        ≡ decided_or (lookup (same_id scope) decided) (if same then entry.fate else fate_by rest scope)
    by false is = refl
    by true is =
        let found : lookup (same_id scope) decided ≡ Some fate =
        subst (λ id. lookup (same_id id) decided ≡ Some fate) (sym (same_id-eq scope entry.scope is)) there
        in
        ap (λ it. decided_or it (fate_by rest scope)) found ∙ sym (ap (λ it. decided_or it entry.fate) found)

-- the next entry is noted if its scope isn't decided yet
new_entry : (decided : List (ScopeId × Fate)) (entry : ScopeFate) (rest log : List ScopeFate)
    → lookup (same_id entry.scope) decided ≡ None → Follows decided (entry ∷ rest) log
    → Follows (insert_entry same_id decided entry.scope entry.fate) rest log
new_entry decided entry rest log absent follows scope = by (same_id scope entry.scope) refl ∙ follows scope
  where
    by : (same : Bool) → same_id scope entry.scope ≡ same
        → decided_or (lookup (same_id scope) (insert_entry same_id decided entry.scope entry.fate)) (fate_by rest scope)
        ≡ decided_or (lookup (same_id scope) decided) (if same then entry.fate else fate_by rest scope)
    by true is =
        let e = same_id-eq scope entry.scope is in
        let here : lookup (same_id scope) (insert_entry same_id decided entry.scope entry.fate) ≡ Some entry.fate =
        subst (λ id. lookup (same_id id) (insert_entry same_id decided entry.scope entry.fate) ≡ Some entry.fate) (sym e)
        (lookup-insert_there ids_equivalence entry.scope entry.fate decided)
        in
        let none : lookup (same_id scope) decided ≡ None =
        subst (λ id. lookup (same_id id) decided ≡ None) (sym e) absent
        in
        ap (λ it. decided_or it (fate_by rest scope)) here ∙ sym (ap (λ it. decided_or it entry.fate) none)
    by false is = ap (λ it. decided_or it (fate_by rest scope))
        (lookup-insert_other ids_equivalence entry.scope entry.fate decided scope
        (ids_equivalence.symm entry.scope scope ∙ is))

next_entry : (decided : List (ScopeId × Fate)) (entry : ScopeFate) (rest log : List ScopeFate)
    → Follows decided (entry ∷ rest) log → Follows (noted decided entry) rest log
next_entry decided entry rest log follows = by (lookup (same_id entry.scope) decided) refl
  where
    by : (found : Option Fate) → lookup (same_id entry.scope) decided ≡ found
        → Follows (noted_if found decided entry) rest log
    by None absent = new_entry decided entry rest log absent follows
    by (Some fate) there = passed_entry decided entry rest log fate there follows

-- the same at an index of the log
pub entry_noted : (decided new : List (ScopeId × Fate)) (log : List ScopeFate) (place : ℕ) (entry : ScopeFate)
    → place < length log → entry ≡ get_or log place entry → new ≡ noted decided entry
    → Follows decided (drop place log) log → Follows new (drop (place + 1) log) log
entry_noted decided new log place entry below at is follows =
    let next : drop place log ≡ entry ∷ drop (place + 1) log =
    drop_more log place entry below ∙ ap (λ x. x ∷ drop (place + 1) log) (sym at)
    in
    subst (λ pairs. Follows pairs (drop (place + 1) log) log) (sym is)
    (next_entry decided entry (drop (place + 1) log) log (subst (λ rest. Follows decided rest log) next follows))
