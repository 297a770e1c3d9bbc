-- Declarations in order with what finds them: as they are added and replaced.
use Rattle.std.proofs.Common.{◌≡◌, ◌∙◌, ◌+◌, ℕ, zero, suc, Bool, true, false, List, [], ◌∷◌, ◌++◌, Option}
use Rattle.std.proofs.Common.{None, Some, arith, length, map, not, option_map, refl, sym, ap, slice_get, if◌then◌else◌}
use Rattle.std.proofs.lemmas.List.{length-map, map-append}
use Rattle.std.proofs.lemmas.List.Folds.{list_any-append}
use Rattle.std.proofs.lemmas.Bool.Decides.{nat_tests}
use Rattle.std.specs.List.{list_any, position, position_or_len}
use Rattle.std.specs.Map.{lookup}
use Rattle.std.specs.Prelude.{◌||◌, nat_lt, slice_set}
use Rattle.indexmap.specs.IndexSet.{insert_key}
use Rattle.rc_hir.specs.Model.{DeclarationEntry, Environment}
use Rattle.rc_names.proofs.KeyedLemmas.{lookup-insert_other, lookup-insert_there}
use Rattle.rc_names.proofs.NumbersLemmas.{ids_equivalence, same_id-eq}
use Rattle.rc_names.specs.Numbers.{DeclarationId, IdentifierId, is_among, same_id}
use Rattle.rc_merge.proofs.NameSetLemmas.{among_inserted}
use Rattle.rc_merge.specs.Joining.{declared_name, declares, put_declaration}
use Rattle.rc_merge.specs.LastUses.{LastUses}
use Rattle.rc_merge.specs.declared.declared.Slot.{Slot}
use Rattle.rc_merge.specs.inside.Declarations.{IsDeclared, entries_of, keys_in, place_if, slot_of, with_place}

-- the first place in a list, step by step

less_first : (l : ℕ) → nat_lt 0 (suc l) ≡ true
less_first l = grind (arith, nat_tests)

less_later : (n l : ℕ) → nat_lt n l ≡ true → nat_lt (1 + n) (suc l) ≡ true
less_later n l e = grind (arith, nat_tests)

not_later : (n l : ℕ) → nat_lt n l ≡ false → nat_lt (1 + n) (suc l) ≡ false
not_later n l e = grind (arith, nat_tests)

place_later : (n l : ℕ) → (if nat_lt (1 + n) (suc l) then Some (1 + n) else None)
    ≡ option_map suc (if nat_lt n l then Some n else None)
place_later n l = by (nat_lt n l) refl
  where
    by : (b : Bool) → nat_lt n l ≡ b
        → (if nat_lt (1 + n) (suc l) then Some (1 + n) else None) ≡ option_map suc (if b then Some n else None)
    by true e = ap (λ t. if t then Some (1 + n) else None) (less_later n l e)
        ∙ ap (λ (k : ℕ). Some k) (let same : 1 + n ≡ suc n = omega arith in same)
    by false e = ap (λ t. if t then Some (1 + n) else None) (not_later n l e)

pub position-cons : {X : Type 0} (p : X → Bool) (x : X) (xs : List X)
    → position p (x ∷ xs) ≡ (if p x then Some 0 else option_map suc (position p xs))
position-cons p x xs = by (p x)
  where
    by : (b : Bool) → (if nat_lt (if not b then 1 + position_or_len p xs else 0) (suc (length xs))
        then Some (if not b then 1 + position_or_len p xs else 0) else None)
        ≡ (if b then Some 0 else option_map suc (position p xs))
    by true = ap (λ t. if t then Some 0 else None) (less_first (length xs))
    by false = place_later (position_or_len p xs) (length xs)

-- a place that is found is that of an element
suc_some : (o : Option ℕ) (i : ℕ) → option_map suc o ≡ Some i → (k : ℕ) × (o ≡ Some k) × (i ≡ suc k)
suc_some None i e = let bad : ⊥ = cc in absurd bad
suc_some (Some k) i e = (k, refl, let same : i ≡ suc k = cc in same)

pub suc_none : (o : Option ℕ) → option_map suc o ≡ None → o ≡ None
suc_none None e = refl
suc_none (Some k) e = let bad : ⊥ = cc in absurd bad

-- one more element at the end
abbrev first_of : {X : Type 0} → Option X → Option X → Option X
first_of None o = o
first_of (Some x) o = Some x

position-push : {X : Type 0} (p : X → Bool) (xs : List X) (x : X)
    → position p (xs ++ x ∷ []) ≡ first_of (position p xs) (if p x then Some (length xs) else None)
position-push p [] x = position-cons p x []
position-push p (y ∷ xs) x =
    position-cons p y (xs ++ x ∷ []) ∙ ap (λ o. if p y then Some 0 else option_map suc o) (position-push p xs x)
    ∙ by (p y) (position p xs) (p x) ∙ ap (λ o. first_of o (if p x then Some (suc (length xs)) else None))
    (sym (position-cons p y xs))
  where
    by : (b : Bool) (o : Option ℕ) (t : Bool)
        → (if b then Some 0 else option_map suc (first_of o (if t then Some (length xs) else None)))
        ≡ first_of (if b then Some 0 else option_map suc o) (if t then Some (suc (length xs)) else None)
    by true o t = refl
    by false None true = refl
    by false None false = refl
    by false (Some k) t = refl

-- a write past the end changes nothing
pub set_none : {X : Type 0} (xs : List X) (i : ℕ) (x : X) → slice_get xs i ≡ None → slice_set xs i x ≡ xs
set_none [] i x none = refl
set_none (y ∷ xs) zero x none = let bad : ⊥ = cc in absurd bad
set_none (y ∷ xs) (suc i) x none = ap (λ l. y ∷ l) (set_none xs i x none)

-- an element of a list that was mapped
pub set_mapped : {X Y : Type 0} (f : X → Y) (xs : List X) (i : ℕ) (x : X)
    → map f (slice_set xs i x) ≡ slice_set (map f xs) i (f x)
set_mapped f [] i x = refl
set_mapped f (y ∷ xs) zero x = refl
set_mapped f (y ∷ xs) (suc i) x = ap (λ l. f y ∷ l) (set_mapped f xs i x)

got_mapped : {X Y : Type 0} (f : X → Y) (xs : List X) (i : ℕ) (x : X) → slice_get xs i ≡ Some x
    → slice_get (map f xs) i ≡ Some (f x)
got_mapped f [] i x there = let bad : ⊥ = cc in absurd bad
got_mapped f (y ∷ xs) zero x there = let is : y ≡ x = cc in ap (λ z. Some (f z)) is
got_mapped f (y ∷ xs) (suc i) x there = got_mapped f xs i x there

-- putting a declaration: into the place of its key, or after the others
turned : (a b : IdentifierId) → same_id a b ≡ same_id b a
turned a b = ids_equivalence.symm a b

pub put_in : (es : List DeclarationEntry) (e : DeclarationEntry) (i : ℕ)
    → position (same_id e.key) (keys_in es) ≡ Some i → slice_set es i e ≡ put_declaration es e
put_in [] e i found = let bad : ⊥ = cc in absurd bad
put_in (x ∷ es) e i found =
    by (same_id e.key x.key) refl (sym (position-cons (same_id e.key) x.key (keys_in es)) ∙ found)
    (λ k here. put_in es e k here)
  where
    by : (b : Bool) → same_id e.key x.key ≡ b
        → (if b then Some 0 else option_map suc (position (same_id e.key) (keys_in es))) ≡ Some i
        → ((k : ℕ) → position (same_id e.key) (keys_in es) ≡ Some k → slice_set es k e ≡ put_declaration es e)
        → slice_set (x ∷ es) i e ≡ put_declaration (x ∷ es) e
    by true same found later =
        let zero_is : 0 ≡ i = cc in
        ap (λ k. slice_set (x ∷ es) k e) (sym zero_is)
        ∙ ap (λ b. if b then e ∷ es else x ∷ put_declaration es e) (sym (turned x.key e.key ∙ same))
    by false same found later =
        let k = suc_some (position (same_id e.key) (keys_in es)) i found in
        ap (λ n. slice_set (x ∷ es) n e) k.2 ∙ ap (λ l. x ∷ l) (later k.0 k.1)
        ∙ ap (λ b. if b then e ∷ es else x ∷ put_declaration es e) (sym (turned x.key e.key ∙ same))

pub put_last : (es : List DeclarationEntry) (e : DeclarationEntry)
    → position (same_id e.key) (keys_in es) ≡ None → es ++ e ∷ [] ≡ put_declaration es e
put_last [] e none = refl
put_last (x ∷ es) e none =
    by (same_id e.key x.key) refl (sym (position-cons (same_id e.key) x.key (keys_in es)) ∙ none)
    (λ here. put_last es e here)
  where
    by : (b : Bool) → same_id e.key x.key ≡ b
        → (if b then Some 0 else option_map suc (position (same_id e.key) (keys_in es))) ≡ None
        → (position (same_id e.key) (keys_in es) ≡ None → es ++ e ∷ [] ≡ put_declaration es e)
        → x ∷ (es ++ e ∷ []) ≡ put_declaration (x ∷ es) e
    by true same none later = let bad : ⊥ = cc in absurd bad
    by false same none later = ap (λ l. x ∷ l) (later (suc_none (position (same_id e.key) (keys_in es)) none))
        ∙ ap (λ b. if b then e ∷ es else x ∷ put_declaration es e) (sym (turned x.key e.key ∙ same))

module _ (env : Environment) (uses : LastUses) where
  -- where a place is looked up after a key without one was added at the end
  place_found : (key : IdentifierId) (place : ℕ) (places : List (IdentifierId × ℕ)) (keys : List IdentifierId)
      → ((other : IdentifierId) → lookup (same_id other) places ≡ position (same_id other) keys)
      → place ≡ length keys → (other : IdentifierId)
      → lookup (same_id other) (with_place key place places) ≡ position (same_id other) (keys ++ key ∷ [])
  place_found key place places keys placed is other =
      by (lookup (same_id key) places) refl (same_id other key) refl
      ∙ sym (position-push (same_id other) keys key)
    where
      found : (k : ℕ) → lookup (same_id key) places ≡ Some k → same_id other key ≡ true
          → first_of (position (same_id other) keys) (Some (length keys)) ≡ lookup (same_id other) places
      found k e same =
          let here : position (same_id other) keys ≡ Some k = sym (placed other)
          ∙ ap (λ (n : IdentifierId). lookup (same_id n) places) (same_id-eq other key same) ∙ e in
          ap (λ o. first_of o (Some (length keys))) here ∙ sym here ∙ sym (placed other)

      apart : (o : Option ℕ) → first_of o None ≡ o
      apart None = refl
      apart (Some k) = refl

      by : (o : Option ℕ) → lookup (same_id key) places ≡ o → (b : Bool) → same_id other key ≡ b
          → lookup (same_id other) (place_if o key place places)
          ≡ first_of (position (same_id other) keys) (if b then Some (length keys) else None)
      by (Some k) e true same = sym (found k e same)
      by (Some k) e false same = placed other ∙ sym (apart (position (same_id other) keys))
      by None e true same =
          let none : position (same_id other) keys ≡ None = sym (placed other)
          ∙ ap (λ (n : IdentifierId). lookup (same_id n) places) (same_id-eq other key same) ∙ e in
          ap (λ (n : IdentifierId). lookup (same_id n) (place_if None key place places)) (same_id-eq other key same)
          ∙ lookup-insert_there ids_equivalence key place places ∙ ap (λ (k : ℕ). Some k) is
          ∙ sym (ap (λ o. first_of o (Some (length keys))) none)
      by None e false same =
          lookup-insert_other ids_equivalence key place places other (ids_equivalence.symm key other ∙ same)
          ∙ placed other ∙ sym (apart (position (same_id other) keys))

  pub pushed : (slots : List Slot) (places : List (IdentifierId × ℕ)) (names : List DeclarationId)
      → IsDeclared env uses slots places names → (e : DeclarationEntry) (more : List DeclarationId)
      → ((name : DeclarationId) → is_among more name ≡ (same_id name (declared_name env e) || is_among names name))
      → IsDeclared env uses (slots ++ slot_of env uses e ∷ []) (with_place e.key (length slots) places) more
  pushed slots places names is e more has = record {
    lasts = ap (λ l. l ++ slot_of env uses e ∷ []) is.lasts ∙ sym (map-append (slot_of env uses) es (e ∷ []))
        ∙ sym (ap (map (slot_of env uses)) entries);
    placed = λ key. place_found e.key (length slots) places (keys_in es) is.placed lengths key
        ∙ ap (position (same_id key)) (sym (ap keys_in entries
        ∙ map-append (λ (entry : DeclarationEntry). entry.key) es (e ∷ [])));
    named = λ name. has name ∙ ap (λ b. same_id name (declared_name env e) || b) (is.named name)
        ∙ swapped (same_id name (declared_name env e)) (declares env es name)
        ∙ sym (ap (λ l. declares env l name) entries ∙ ap (list_any (same_id name))
        (map-append (declared_name env) es (e ∷ []))
        ∙ list_any-append (same_id name) (map (declared_name env) es) (declared_name env e ∷ []));
  }
    where
      es : List DeclarationEntry
      es = entries_of slots

      entries : entries_of (slots ++ slot_of env uses e ∷ []) ≡ es ++ e ∷ []
      entries = map-append (λ (slot : Slot). slot.entry) slots (slot_of env uses e ∷ [])

      lengths : length slots ≡ length (keys_in es)
      lengths = sym (length-map es (λ (entry : DeclarationEntry). entry.key)
          ∙ length-map slots (λ (slot : Slot). slot.entry))

      swapped : (a b : Bool) → (a || b) ≡ (b || (a || false))
      swapped true true = refl
      swapped true false = refl
      swapped false true = refl
      swapped false false = refl

  -- the same with a set of names that has one more, by what each part of it is
  pub pushed_as : (slots : List Slot) (places : List (IdentifierId × ℕ)) (names : List DeclarationId)
      → IsDeclared env uses slots places names → (e : DeclarationEntry) (name : DeclarationId) (slot : Slot)
      (more : List Slot) (more_places : List (IdentifierId × ℕ)) (more_names : List DeclarationId)
      → name ≡ declared_name env e → slot ≡ slot_of env uses e → more ≡ slots ++ slot ∷ []
      → more_places ≡ with_place e.key (length slots) places → more_names ≡ insert_key same_id names name
      → IsDeclared env uses more more_places more_names
  pushed_as slots places names is e name slot more more_places more_names is_name is_slot is_more is_places is_names =
      rw (is_more, is_places, is_names, is_slot, is_name)
      (pushed slots places names is e (insert_key same_id names (declared_name env e))
      (among_inserted names (declared_name env e)))

  -- what a list is mapped to stays where an element is replaced by one that is mapped to the same
  map_set : {Y : Type 0} (g : DeclarationEntry → Y) (es : List DeclarationEntry) (i : ℕ) (old e : DeclarationEntry)
      → slice_get es i ≡ Some old → g old ≡ g e → map g (slice_set es i e) ≡ map g es
  map_set g [] i old e found same = refl
  map_set g (x ∷ es) zero old e found same =
      let is : x ≡ old = cc in ap (λ y. y ∷ map g es) (sym same ∙ ap g (sym is))
  map_set g (x ∷ es) (suc i) old e found same = ap (λ l. g x ∷ l) (map_set g es i old e found same)

  -- the key at a place that is found
  key_at : (key : IdentifierId) (es : List DeclarationEntry) (i : ℕ) (old : DeclarationEntry)
      → position (same_id key) (keys_in es) ≡ Some i → slice_get es i ≡ Some old → old.key ≡ key
  key_at key [] i old found there = let bad : ⊥ = cc in absurd bad
  key_at key (x ∷ es) i old found there =
      by (same_id key x.key) refl (sym (position-cons (same_id key) x.key (keys_in es)) ∙ found) there
      (λ k here at. key_at key es k old here at)
    where
      by : (b : Bool) → same_id key x.key ≡ b
          → (if b then Some 0 else option_map suc (position (same_id key) (keys_in es))) ≡ Some i
          → slice_get (x ∷ es) i ≡ Some old
          → ((k : ℕ) → position (same_id key) (keys_in es) ≡ Some k → slice_get es k ≡ Some old → old.key ≡ key)
          → old.key ≡ key
      by true same found there later =
          let zero_is : 0 ≡ i = cc in
          let first : slice_get (x ∷ es) 0 ≡ Some old = ap (slice_get (x ∷ es)) zero_is ∙ there in
          let is : x ≡ old = cc in
          ap (λ (entry : DeclarationEntry). entry.key) (sym is) ∙ sym (same_id-eq key x.key same)
      by false same found there later =
          let k = suc_some (position (same_id key) (keys_in es)) i found in
          later k.0 k.1 (ap (slice_get (x ∷ es)) (sym k.2) ∙ there)

  pub replaced : (slots : List Slot) (places : List (IdentifierId × ℕ)) (names : List DeclarationId)
      → IsDeclared env uses slots places names → (e : DeclarationEntry) (old : Slot) (i : ℕ)
      → position (same_id e.key) (keys_in (entries_of slots)) ≡ Some i → slice_get slots i ≡ Some old
      → declared_name env old.entry ≡ declared_name env e
      → IsDeclared env uses (slice_set slots i (slot_of env uses e)) places names
  replaced slots places names is e old i found there same =
      let es = entries_of slots in
      let entries = set_mapped (λ (slot : Slot). slot.entry) slots i (slot_of env uses e) in
      let old_entry = got_mapped (λ (slot : Slot). slot.entry) slots i old there in
      let keys = map_set (λ entry. entry.key) es i old.entry e old_entry
      (key_at e.key es i old.entry found old_entry) in
      let all = map_set (declared_name env) es i old.entry e old_entry same in
      record {
        lasts = ap (λ l. slice_set l i (slot_of env uses e)) is.lasts ∙ sym (set_mapped (slot_of env uses) es i e)
            ∙ sym (ap (map (slot_of env uses)) entries);
        placed = λ key. is.placed key ∙ ap (position (same_id key)) (sym (ap keys_in entries ∙ keys));
        named = λ name. is.named name ∙ ap (λ l. is_among l name) (sym (ap (map (declared_name env)) entries ∙ all));
      }
