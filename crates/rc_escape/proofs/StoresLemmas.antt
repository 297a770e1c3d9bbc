-- One more name that is stored, and whether all scopes of a list gave way.
use Rattle.std.proofs.Common.{◌≡◌, Bool, true, false, List, [], ◌∷◌, Option, None, Some, ap, cond}
use Rattle.std.proofs.Common.{◌∙◌, ◌<◌, ◌≤◌, ◌+◌, ℕ, inl, inr, arith, drop, length, refl, sym}
use Rattle.std.proofs.lemmas.Option.{slice_get_cases, slice_get_past}
use Rattle.std.specs.Prelude.{◌&&◌, slice_get}
use Rattle.std.specs.List.{list_all}
use Rattle.std.specs.Map.{lookup, set_value}
use Rattle.indexmap.specs.IndexMap.{insert_entry}
use Rattle.indexmap.specs.IndexSet.{insert_key}
use Rattle.rc_escape.proofs.ListLemmas.{drop-at, drop-past}
use Rattle.rc_escape.specs.Met.{Stores, with_store}
use Rattle.rc_escape.specs.declared.not_escaping.met.Store.{Store}
use Rattle.rc_names.specs.Numbers.{ScopeId, same_id}

module _ (store : Store) where
  abbrev there : Stores → Option (List ScopeId)
  there entries = lookup (same_id store.declaration) entries

  -- a scope that is put to those of a declaration
  pub further_store : (entries : Stores) (scopes : List ScopeId) → Some scopes ≡ there entries
      → set_value (same_id store.declaration) entries (insert_key same_id scopes store.scope) ≡ with_store store entries
  further_store [] scopes found = absurd (let bad : ⊥ = cc in bad)
  further_store (entry ∷ entries) scopes found =
      by (same_id store.declaration entry.0) found (further_store entries scopes)
    where
      by : (b : Bool) → Some scopes ≡ cond b (Some entry.1) (there entries)
          → (Some scopes ≡ there entries
          → set_value (same_id store.declaration) entries (insert_key same_id scopes store.scope)
          ≡ with_store store entries)
          → cond b ((entry.0, insert_key same_id scopes store.scope) ∷ entries)
          (entry ∷ set_value (same_id store.declaration) entries (insert_key same_id scopes store.scope))
          ≡ cond b ((entry.0, insert_key same_id entry.1 store.scope) ∷ entries) (entry ∷ with_store store entries)
      by true here rest =
          let same : scopes ≡ entry.1 = cc in
          ap (λ s. (entry.0, insert_key same_id s store.scope) ∷ entries) same
      by false later rest = ap (λ all. entry ∷ all) (rest later)

  -- the first scope of a declaration
  pub first_store : (entries : Stores) → there entries ≡ None
      → insert_entry same_id entries store.declaration (store.scope ∷ []) ≡ with_store store entries
  first_store [] none = refl
  first_store (entry ∷ entries) none = by (same_id store.declaration entry.0) none (first_store entries)
    where
      by : (b : Bool) → cond b (Some entry.1) (there entries) ≡ None
          → (there entries ≡ None
          → insert_entry same_id entries store.declaration (store.scope ∷ []) ≡ with_store store entries)
          → cond b ((entry.0, store.scope ∷ []) ∷ entries)
          (entry ∷ insert_entry same_id entries store.declaration (store.scope ∷ []))
          ≡ cond b ((entry.0, insert_key same_id entry.1 store.scope) ∷ entries) (entry ∷ with_store store entries)
      by true here rest = absurd (let bad : ⊥ = cc in bad)
      by false later rest = ap (λ all. entry ∷ all) (rest later)

-- whether all elements of a list pass, found one by one: those that are left decide
module _ (p : ScopeId → Bool) (xs : List ScopeId) where
  abbrev pub DecideRest : ℕ → Type 0
  DecideRest i = list_all p (drop i xs) ≡ list_all p xs

  -- the next element, and the others
  opened : (i : ℕ) → i < length xs → (passes : Bool)
      → ((x : ScopeId) → slice_get xs i ≡ Some x → passes ≡ p x) → DecideRest i
      → (passes && list_all p (drop (i + 1) xs)) ≡ list_all p xs
  opened i lt passes is rest = elim (slice_get_cases xs i).1 [
    | inl w ↦ ap (λ b. b && list_all p (drop (i + 1) xs)) (is w.0 w.2)
        ∙ sym (ap (list_all p) (drop-at xs i (i + 1) w.0 w.2 refl)) ∙ rest
    | inr w ↦ absurd (omega arith)
  ]

  pub rest_next : (i : ℕ) → i < length xs → (passes : Bool)
      → ((x : ScopeId) → slice_get xs i ≡ Some x → passes ≡ p x) → passes ≡ true → DecideRest i → DecideRest (i + 1)
  rest_next i lt passes is goes_on rest =
      sym (ap (λ b. b && list_all p (drop (i + 1) xs)) goes_on) ∙ opened i lt passes is rest

  pub rest_stopped : (i : ℕ) → i < length xs → (passes : Bool)
      → ((x : ScopeId) → slice_get xs i ≡ Some x → passes ≡ p x) → passes ≡ false → DecideRest i
      → false ≡ list_all p xs
  rest_stopped i lt passes is stops rest =
      sym (ap (λ b. b && list_all p (drop (i + 1) xs)) stops) ∙ opened i lt passes is rest

  pub rest_ended : (i : ℕ) → length xs ≤ i → DecideRest i → true ≡ list_all p xs
  rest_ended i le rest = sym (ap (list_all p) (drop-past xs i (slice_get_past xs i le))) ∙ rest
