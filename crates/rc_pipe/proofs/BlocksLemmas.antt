-- What holds of all keys or values of a map, said of its pairs.
use Rattle.std.proofs.Common.{◌≡◌, ◌+◌, ℕ, Bool, cond, List, [], ◌∷◌, All, arith, refl, subst}
use Rattle.std.specs.Map.{keys_of, values_of}
use Rattle.std.specs.Prelude.{count_by, fold}
use Rattle.std.proofs.lemmas.List.{get_or-map}
use Rattle.std.proofs.lemmas.List.Elements.{All-map}
use Rattle.std.proofs.lemmas.Map.Entries.{length-keys_of, length-values_of}

module _ {K V : Type 0} where
  count_from : (test : V → Bool) (entries : List (K × V)) (count : ℕ)
      → fold (λ n value. n + cond (test value) 1 0) count (values_of entries)
      ≡ fold (λ n entry. n + cond (test entry.1) 1 0) count entries
  count_from test [] count = refl
  count_from test (entry ∷ entries) count = count_from test entries (count + cond (test entry.1) 1 0)

  pub count_values : (test : V → Bool) (entries : List (K × V))
      → count_by test (values_of entries) ≡ count_by (λ entry. test entry.1) entries
  count_values test entries = count_from test entries 0

  pub all_keys : (P : K → Type 0) (entries : List (K × V)) → All (λ entry. P entry.0) entries → All P (keys_of entries)
  all_keys P entries all = All-map P (λ entry. entry.0) entries all

  pub of_all_keys : (P : K → Type 0) (entries : List (K × V)) → All P (keys_of entries)
      → All (λ entry. P entry.0) entries
  of_all_keys P entries all k entry within =
      subst P (get_or-map (λ e. e.0) entries k entry entry.0 within)
      (all k entry.0 (omega (arith, within, length-keys_of entries)))

  pub all_values : (P : V → Type 0) (entries : List (K × V)) → All (λ entry. P entry.1) entries
      → All P (values_of entries)
  all_values P entries all = All-map P (λ entry. entry.1) entries all

  pub of_all_values : (P : V → Type 0) (entries : List (K × V)) → All P (values_of entries)
      → All (λ entry. P entry.1) entries
  of_all_values P entries all k entry within =
      subst P (get_or-map (λ e. e.1) entries k entry entry.1 within)
      (all k entry.1 (omega (arith, within, length-values_of entries)))
