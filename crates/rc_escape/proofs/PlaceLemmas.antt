-- Entries of lists by place, and the positions of names in a record.
use Rattle.std.proofs.Common.{◌≡◌, ◌∙◌, ◌<◌, ◌≤◌, inl, inr, ℕ, zero, suc, List, [], ◌∷◌, Option, Some, None, Bool, true}
use Rattle.std.proofs.Common.{false, cond, eqb-true, refl, sym, ap, subst, length, arith, get_or, lt-ltb, replicate}
use Rattle.std.specs.Prelude.{nat_eq, nat_lt, option_map, slice_get, slice_set, position}
use Rattle.std.specs.List.{IsDistinct, position_or_len}
use Rattle.std.specs.Map.{keys_of, lookup, lookup_key}
use Rattle.std.specs.Option.{option_map_or}
use Rattle.std.proofs.lemmas.Cmp.{nat_eq_equiv}
use Rattle.std.proofs.lemmas.List.Sums.{position_or_len_is}
use Rattle.std.proofs.lemmas.Map.Entries.{length-keys_of}
use Rattle.std.proofs.lemmas.Map.Keys.{apart_from_distinct}
use Rattle.std.proofs.lemmas.Map.Made.{lookup_key_passes}
use Rattle.std.proofs.lemmas.Option.{get_or_from_slice_get, slice_get-map, slice_get_cases, slice_get_within}
use Rattle.indexmap.proofs.MapLemmas.{Found-position, Missing-position}
use Rattle.rc_names.proofs.NumbersLemmas.{ids_equivalence, same_id-eq}
use Rattle.rc_names.specs.Numbers.{same_id}
use Rattle.rc_names.specs.declared.numbers.Id.{Id}
use Rattle.rc_escape.specs.inside.WalkPlaces.{entry_at, entry_or}

-- an entry that is put at a place is there, and any other place is as it was
pub set-here : {X : Type 0} (d v : X) (xs : List X) (p : ℕ) → p < length xs → entry_or d (slice_set xs p v) p ≡ v
set-here d v [] p lt = absurd (omega (arith, lt))
set-here d v (x ∷ xs) zero lt = refl
set-here d v (x ∷ xs) (suc p) lt = set-here d v xs p (omega (arith, lt))

pub set-other : {X : Type 0} (d v : X) (xs : List X) (p q : ℕ) → (p ≡ q → ⊥)
    → entry_or d (slice_set xs p v) q ≡ entry_or d xs q
set-other d v [] p q apart = refl
set-other d v (x ∷ xs) zero zero apart = absurd (apart refl)
set-other d v (x ∷ xs) zero (suc q) apart = refl
set-other d v (x ∷ xs) (suc p) zero apart = refl
set-other d v (x ∷ xs) (suc p) (suc q) apart = set-other d v xs p q (λ e. apart (ap suc e))

pub entry_or-set : {X : Type 0} (d v : X) (xs : List X) (p q : ℕ) → p < length xs
    → entry_or d (slice_set xs p v) q ≡ cond (nat_eq p q) v (entry_or d xs q)
entry_or-set d v xs p q lt = go (nat_eq p q) refl
  where
    go : (b : Bool) → nat_eq p q ≡ b → entry_or d (slice_set xs p v) q ≡ cond b v (entry_or d xs q)
    go true e = ap (entry_or d (slice_set xs p v)) (sym (eqb-true p q e)) ∙ set-here d v xs p lt
    go false e = set-other d v xs p q (λ same. let itself = ap (nat_eq p) (sym same) ∙ nat_eq_equiv.refl p in cc)

pub entry_at-set : {X : Type 0} (d v : X) (xs : List X) (p : ℕ) → p < length xs → (place : Option ℕ)
    → entry_at d (slice_set xs p v) place
    ≡ cond (option_map_or (nat_eq p) place false) v (entry_at d xs place)
entry_at-set d v xs p lt None = refl
entry_at-set d v xs p lt (Some q) = entry_or-set d v xs p q lt

-- past the end there is no entry
pub entry_or-past : {X : Type 0} (d : X) (xs : List X) (p : ℕ) → length xs ≤ p → entry_or d xs p ≡ d
entry_or-past d [] p le = refl
entry_or-past d (x ∷ xs) zero le = absurd (omega (arith, le))
entry_or-past d (x ∷ xs) (suc p) le = entry_or-past d xs p (omega (arith, le))

-- each place of equal entries has that entry
pub entry_or-replicate : {X : Type 0} (d : X) (n p : ℕ) → entry_or d (replicate n d) p ≡ d
entry_or-replicate d zero p = refl
entry_or-replicate d (suc n) zero = refl
entry_or-replicate d (suc n) (suc p) = entry_or-replicate d n p

pub entry_at-replicate : {X : Type 0} (d : X) (n : ℕ) (place : Option ℕ) → entry_at d (replicate n d) place ≡ d
entry_at-replicate d n None = refl
entry_at-replicate d n (Some p) = entry_or-replicate d n p

pub length-set : {X : Type 0} (xs : List X) (p : ℕ) (v : X) → length (slice_set xs p v) ≡ length xs
length-set [] p v = refl
length-set (x ∷ xs) zero v = refl
length-set (x ∷ xs) (suc p) v = ap suc (length-set xs p v)

module _ {K X : Type 0} where
  -- the position of a name has that name
  pub name_at_place : (es : List (Id K × X)) (d : Id K) (p : ℕ) → position (same_id d) (keys_of es) ≡ Some p
      → slice_get (keys_of es) p ≡ Some d
  name_at_place es d p at =
      let found = Found-position (same_id d) es p at in
      elim (slice_get_cases (keys_of es) p).1 [
        | inl w ↦
            let key : lookup_key (same_id d) es ≡ Some w.0 = found.key ∙ w.2 in
            w.2 ∙ ap Some (sym (same_id-eq d w.0 (lookup_key_passes (same_id d) es w.0 key)))
        | inr w ↦ absurd (omega (arith, found.within, length-keys_of es))
      ]

  -- two names with one position are one
  pub same_place : (es : List (Id K × X)) (p : ℕ) (d e : Id K) → position (same_id d) (keys_of es) ≡ Some p
      → position (same_id e) (keys_of es) ≡ Some p → e ≡ d
  same_place es p d e f g = let a = name_at_place es d p f in let b = name_at_place es e p g in cc

  -- the entry at the position of a name has that name
  pub key_at_place : (es : List (Id K × X)) (d : Id K) (p : ℕ) (x : Id K × X)
      → position (same_id d) (keys_of es) ≡ Some p → slice_get es p ≡ Some x → d ≡ x.0
  key_at_place es d p x at h =
      let key : slice_get (keys_of es) p ≡ Some x.0 = slice_get-map (λ e. e.0) es p ∙ ap (option_map (λ e. e.0)) h in
      let name = name_at_place es d p at in cc

  -- and its value is looked up by that name
  pub value_at_place : (es : List (Id K × X)) (d : Id K) (p : ℕ) (x : Id K × X)
      → position (same_id d) (keys_of es) ≡ Some p → slice_get es p ≡ Some x → lookup (same_id d) es ≡ Some x.1
  value_at_place es d p x at h =
      (Found-position (same_id d) es p at).value ∙ slice_get-map (λ e. e.1) es p ∙ ap (option_map (λ e. e.1)) h

  -- a name without a position isn't found
  pub absent_without_place : (es : List (Id K × X)) (d : Id K) → position (same_id d) (keys_of es) ≡ None
      → lookup (same_id d) es ≡ None
  absent_without_place es d none = (Missing-position (same_id d) es none).value

  -- a position is a place of the list
  pub place_within : (es : List (Id K × X)) (d : Id K) (p : ℕ) → position (same_id d) (keys_of es) ≡ Some p
      → p < length es
  place_within es d p at = (Found-position (same_id d) es p at).within

  -- so it has an entry
  pub place_has_entry : (es : List (Id K × X)) (d : Id K) (p : ℕ) → position (same_id d) (keys_of es) ≡ Some p
      → slice_get es p ≡ None → ⊥
  place_has_entry es d p at none =
      elim (slice_get_cases es p).1 [ inl w ↦ cc | inr w ↦ absurd (omega (arith, place_within es d p at)) ]

  -- in distinct names the position of a name is the place at which it is
  pub place_of_distinct : (es : List (Id K × X)) (p : ℕ) (x : Id K × X) → IsDistinct same_id (keys_of es)
      → slice_get es p ≡ Some x
      → position (same_id x.0) (keys_of es) ≡ Some p
  place_of_distinct es p x distinct at =
      let key : slice_get (keys_of es) p ≡ Some x.0 = slice_get-map (λ e. e.0) es p ∙ ap (option_map (λ e. e.0)) at in
      let lt = slice_get_within (keys_of es) p x.0 key in
      let read : get_or (keys_of es) p x.0 ≡ x.0 = get_or_from_slice_get (keys_of es) p x.0 x.0 key in
      let is : position_or_len (same_id x.0) (keys_of es) ≡ p =
      position_or_len_is (same_id x.0) (keys_of es) p x.0 (omega arith)
      (λ j below. differs j below lt read)
      (λ h. subst (λ w. same_id x.0 w ≡ true) (sym read) (ids_equivalence.refl x.0)) in
      ap (λ w. cond (nat_lt w (length (keys_of es))) (Some w) None) is
      ∙ ap (λ w. cond w (Some p) None) (lt-ltb p (length (keys_of es)) lt)
    where
      differs : (j : ℕ) → j < p → p < length (keys_of es) → get_or (keys_of es) p x.0 ≡ x.0
          → same_id x.0 (get_or (keys_of es) j x.0) ≡ false
      differs j below lt read =
          ids_equivalence.symm x.0 (get_or (keys_of es) j x.0) ∙ ap (same_id (get_or (keys_of es) j x.0)) (sym read)
          ∙ apart_from_distinct same_id (keys_of es) j p x.0 distinct below lt

  -- a name has the position of another exactly if it is that one
  pub place_of_same : (es : List (Id K × X)) (d : Id K) (p : ℕ) → position (same_id d) (keys_of es) ≡ Some p
      → (e : Id K) → option_map_or (nat_eq p) (position (same_id e) (keys_of es)) false ≡ same_id e d
  place_of_same es d p at e = by (same_id e d) refl
    where
      other : same_id e d ≡ false → (o : Option ℕ) → position (same_id e) (keys_of es) ≡ o
          → option_map_or (nat_eq p) o false ≡ false
      other apart None f = refl
      other apart (Some q) f = go (nat_eq p q) refl
        where
          go : (b : Bool) → nat_eq p q ≡ b → b ≡ false
          go false h = refl
          go true h =
              let equal : e ≡ d = same_place es p d e at (f ∙ ap Some (sym (eqb-true p q h))) in
              let again : same_id e d ≡ true = subst (λ w. same_id e w ≡ true) equal (ids_equivalence.refl e) in cc

      by : (b : Bool) → same_id e d ≡ b → option_map_or (nat_eq p) (position (same_id e) (keys_of es)) false ≡ b
      by true f =
          let place : position (same_id e) (keys_of es) ≡ Some p =
          ap (λ w. position (same_id w) (keys_of es)) (same_id-eq e d f) ∙ at in
          ap (λ o. option_map_or (nat_eq p) o false) place ∙ nat_eq_equiv.refl p
      by false f = other f (position (same_id e) (keys_of es)) refl

  -- putting an entry at the place of a name puts it at that name
  pub entry_puts : {Y : Type 0} (d0 v : Y) (es : List (Id K × X)) (ys : List Y) (d : Id K) (p : ℕ)
      → position (same_id d) (keys_of es) ≡ Some p → p < length ys
      → (e : Id K) → entry_at d0 (slice_set ys p v) (position (same_id e) (keys_of es))
      ≡ cond (same_id e d) v (entry_at d0 ys (position (same_id e) (keys_of es)))
  entry_puts d0 v es ys d p at lt e =
      entry_at-set d0 v ys p lt (position (same_id e) (keys_of es))
      ∙ ap (λ b. cond b v (entry_at d0 ys (position (same_id e) (keys_of es)))) (place_of_same es d p at e)
