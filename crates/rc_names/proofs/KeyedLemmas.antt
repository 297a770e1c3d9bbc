-- Pairs with distinct keys that are inserted one after the other keep their order.
use Rattle.std.proofs.Common.{◌≡◌, ◌∙◌, Bool, true, false, List, [], ◌∷◌, ◌++◌, Some, None, ap, append_assoc, refl, sym}
use Rattle.std.proofs.Common.{◌<◌, ◌+◌, ℕ, cond, get_or, if◌then◌else◌, length, subst, take}
use Rattle.std.specs.Cmp.{IsEquivalence}
use Rattle.std.specs.List.{AllByRecursion, IsDistinct}
use Rattle.std.proofs.lemmas.List.{take_more}
use Rattle.indexmap.proofs.MapLemmas.{distinct-take}
use Rattle.indexmap.proofs.SetLemmas.{set_all_distinct}
use Rattle.indexmap.specs.IndexSet.{insert_key}
use Rattle.std.specs.Map.{keys_of, lookup}
use Rattle.std.proofs.lemmas.Map.Keys.{IsDistinct-head, IsDistinct-tail}
use Rattle.indexmap.specs.IndexMap.{insert_entry}

module _ {K V : Type 0} (eq : K → K → Bool) (eq_same : (m n : K) → eq m n ≡ true → m ≡ n) (k : K) (v : V)
    (rest : List (K × V)) where
  -- if all keys have a property, so has a key after others
  of_later_key : (P : K → Type 0) (es : List (K × V)) → AllByRecursion P (keys_of (es ++ (k, v) ∷ rest)) → P k
  of_later_key P [] all = all.0
  of_later_key P (e ∷ es) all = of_later_key P es all.1

  -- inequality of keys is symmetric
  differs : (m : K) → eq m k ≡ false → eq k m ≡ false
  differs m apart = by (eq k m) refl
    where
      by : (answer : Bool) → eq k m ≡ answer → answer ≡ false
      by false is = refl
      by true is = let same : k ≡ m = eq_same k m is in cc (ap (λ n. eq m n) same, ap (λ n. eq k n) same)

  -- a new key goes last
  pub insert_entry-behind : (es : List (K × V)) → IsDistinct eq (keys_of (es ++ (k, v) ∷ rest))
      → insert_entry eq es k v ≡ es ++ (k, v) ∷ []
  insert_entry-behind [] distinct = refl
  insert_entry-behind (e ∷ es) distinct =
      rw (differs e.0 (of_later_key (λ y. eq e.0 y ≡ false) es (IsDistinct-head eq e.0 _ distinct)))
      (ap (λ l. e ∷ l) (insert_entry-behind es (IsDistinct-tail eq e.0 _ distinct)))

-- moving the first pair that is left to the end of the copy keeps the whole list
pub next_pair : {K V : Type 0} (eq : K → K → Bool) → ((m n : K) → eq m n ≡ true → m ≡ n)
    → (k : K) (v : V) (copy new left rest pairs : List (K × V))
    → IsDistinct eq (keys_of pairs) → copy ++ left ≡ pairs → left ≡ (k, v) ∷ rest → new ≡ insert_entry eq copy k v
    → new ++ rest ≡ pairs
next_pair eq eq_same k v copy new left rest pairs distinct whole next inserted =
    let pairs_are : pairs ≡ copy ++ (k, v) ∷ rest = sym whole ∙ ap (λ l. copy ++ l) next in
    let apart : IsDistinct eq (keys_of (copy ++ (k, v) ∷ rest)) = rw pairs_are at distinct in
    rw (inserted, insert_entry-behind eq eq_same k v rest copy apart, pairs_are) (append_assoc copy ((k, v) ∷ []) rest)

-- looking up a key after a pair was inserted
module _ {K V : Type 0} {eq : K → K → Bool} (equivalence : IsEquivalence eq) (key : K) (value : V) where
  pub lookup-insert_there : (pairs : List (K × V)) → lookup (eq key) (insert_entry eq pairs key value) ≡ Some value
  lookup-insert_there [] = ap (λ b. cond b (Some value) None) (equivalence.refl key)
  lookup-insert_there (e ∷ es) = go (eq key e.0) refl (lookup-insert_there es)
    where
      go : (b : Bool) → eq key e.0 ≡ b → lookup (eq key) (insert_entry eq es key value) ≡ Some value
          → lookup (eq key) (if b then (e.0, value) ∷ es else e ∷ insert_entry eq es key value) ≡ Some value
      go true is later = ap (λ b. cond b (Some value) (lookup (eq key) es)) is
      go false is later = ap (λ b. cond b (Some e.1) (lookup (eq key) (insert_entry eq es key value))) is ∙ later

  pub lookup-insert_other : (pairs : List (K × V)) (other : K) → eq key other ≡ false
      → lookup (eq other) (insert_entry eq pairs key value) ≡ lookup (eq other) pairs
  lookup-insert_other [] other apart = ap (λ b. cond b (Some value) None) (equivalence.symm other key ∙ apart)
  lookup-insert_other (e ∷ es) other apart = go (eq key e.0) refl (lookup-insert_other es other apart)
    where
      go : (b : Bool) → eq key e.0 ≡ b → lookup (eq other) (insert_entry eq es key value) ≡ lookup (eq other) es
          → lookup (eq other) (if b then (e.0, value) ∷ es else e ∷ insert_entry eq es key value)
          ≡ lookup (eq other) (e ∷ es)
      go true is later =
          let unlike : eq other e.0 ≡ false =
          equivalence.symm other e.0 ∙ sym (equivalence.congr key e.0 other is) ∙ apart
          in ap (λ b. cond b (Some value) (lookup (eq other) es)) unlike
          ∙ sym (ap (λ b. cond b (Some e.1) (lookup (eq other) es)) unlike)
      go false is later = ap (λ z. cond (eq other e.0) (Some e.1) z) later

-- the front part of distinct keys with the next one put in
pub next_key : {K : Type 0} {eq : K → K → Bool} → IsEquivalence eq → (keys : List K) (i : ℕ) (key : K)
    → IsDistinct eq keys → i < length keys → get_or keys i key ≡ key
    → insert_key eq (take i keys) key ≡ take (i + 1) keys
next_key {K} {eq} equivalence keys i key distinct within read =
    let more : take (i + 1) keys ≡ take i keys ++ key ∷ [] =
    take_more keys i key within ∙ ap (λ k. take i keys ++ k ∷ []) read in
    set_all_distinct equivalence (take i keys) (key ∷ [])
    (subst (IsDistinct eq) more (distinct-take equivalence (i + 1) keys distinct)) ∙ sym more
