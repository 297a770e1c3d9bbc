-- Truth values in the bits of words.
use Rattle.std.proofs.Common.{◌≡◌, ◌≢◌, ◌∙◌, ◌≤◌, ◌<◌, ◌*◌, ◌/◌, ◌%◌, ℕ, Bool, true, false, List, Some, length, refl}
use Rattle.std.proofs.Common.{sym, ap, subst, arith, get_or, set, slice_get, replicate, zero-add}
use Rattle.std.specs.Prelude.{nat_eq, nat_lt}
use Rattle.std.specs.Int.{bit_at}
use Rattle.std.proofs.lemmas.List.{ext_get_or, get_or-replicate, get_or_past, get_or-set_same, get_or-set_other, length-replicate}
use Rattle.std.proofs.lemmas.List.{length-set}
use Rattle.std.proofs.lemmas.List.FromFn.{get_or-map-range_with_len, length-map-range_with_len}
use Rattle.std.proofs.lemmas.Option.{slice_get-get_or}
use Rattle.std.proofs.lemmas.Nat.Bits.{bit_at-zero}
use Rattle.rc_names.specs.BitRows.{bit_in, bits_of}

pub bits-length : (words : List ℕ) (n : ℕ) → length (bits_of words n) ≡ n
bits-length words n = length-map-range_with_len (bit_in words) 0 n

pub bits-get_or : (words : List ℕ) (n i : ℕ) (d : Bool) → i < n → get_or (bits_of words n) i d ≡ bit_in words i
bits-get_or words n i d lt = get_or-map-range_with_len (bit_in words) 0 n i i d lt (zero-add i)

pub bits-get : (words : List ℕ) (n i : ℕ) → i < n → slice_get (bits_of words n) i ≡ Some (bit_in words i)
bits-get words n i lt =
    slice_get-get_or (bits_of words n) i false (subst (λ m. i < m) (sym (bits-length words n)) lt)
    ∙ ap Some (bits-get_or words n i false lt)

abbrev pub no_bits : ℕ
no_bits = 0

zero_word : (m i : ℕ) → get_or (replicate m no_bits) i no_bits ≡ no_bits
zero_word m i = go (nat_lt i m) refl
  where
    go : (b : Bool) → nat_lt i m ≡ b → get_or (replicate m no_bits) i no_bits ≡ no_bits
    go true lt = get_or-replicate m i no_bits no_bits (grind (arith, lt))
    go false lt = get_or_past (replicate m no_bits) i no_bits
        (subst (λ k. k ≤ i) (sym (length-replicate m no_bits)) (grind (arith, lt)))

pub bits-zero : (m n : ℕ) → bits_of (replicate m 0) n ≡ replicate n false
bits-zero m n = ext_get_or false (bits_of (replicate m 0) n) (replicate n false)
    (bits-length (replicate m 0) n ∙ sym (length-replicate n false))
    (λ i lt. let within : i < n = subst (λ k. i < k) (bits-length (replicate m 0) n) lt in
    bits-get_or (replicate m 0) n i false within
    ∙ ap (λ w. nat_eq (bit_at w (i % 64)) 1) (zero_word m (i / 64))
    ∙ ap (λ b. nat_eq b 1) (bit_at-zero (i % 64)) ∙ sym (get_or-replicate n i false false within))

pub bits-set : (words : List ℕ) (n i w : ℕ) (value : Bool) → n ≤ length words * 64 → i < n
    → nat_eq (bit_at w (i % 64)) 1 ≡ value
    → ((j : ℕ) → j < 64 → j ≢ i % 64 → bit_at w j ≡ bit_at (get_or words (i / 64) 0) j)
    → bits_of (set words (i / 64) w) n ≡ set (bits_of words n) i value
bits-set words n i w value room lt bit others =
    ext_get_or false (bits_of (set words (i / 64) w) n) (set (bits_of words n) i value)
    (bits-length (set words (i / 64) w) n ∙ sym (length-set (bits_of words n) i value ∙ bits-length words n))
    (λ j h. let within : j < n = subst (λ k. j < k) (bits-length (set words (i / 64) w) n) h in
    bits-get_or (set words (i / 64) w) n j false within ∙ at j within (nat_eq j i) refl)
  where
    inside : i / 64 < length words
    inside = omega (arith, room, lt)

    same : bit_in (set words (i / 64) w) i ≡ get_or (set (bits_of words n) i value) i false
    same = ap (λ x. nat_eq (bit_at x (i % 64)) 1) (get_or-set_same words (i / 64) w 0 inside) ∙ bit
        ∙ sym (get_or-set_same (bits_of words n) i value false (subst (λ k. i < k) (sym (bits-length words n)) lt))

    apart_word : (j : ℕ) → nat_eq (j / 64) (i / 64) ≡ false → j / 64 ≢ i / 64
    apart_word j e = grind (arith, e)

    word_at : (j : ℕ) → j ≢ i → (b : Bool) → nat_eq (j / 64) (i / 64) ≡ b
        → bit_in (set words (i / 64) w) j ≡ bit_in words j
    word_at j apart true t = let e : j / 64 ≡ i / 64 = grind (arith, t) in
        ap (λ k. nat_eq (bit_at (get_or (set words (i / 64) w) k 0) (j % 64)) 1) e
        ∙ ap (λ x. nat_eq (bit_at x (j % 64)) 1) (get_or-set_same words (i / 64) w 0 inside)
        ∙ ap (λ b. nat_eq b 1) (others (j % 64) (omega arith) (λ r. apart (omega (arith, e, r))))
        ∙ ap (λ k. nat_eq (bit_at (get_or words k 0) (j % 64)) 1) (sym e)
    word_at j apart false t =
        ap (λ x. nat_eq (bit_at x (j % 64)) 1) (get_or-set_other words (i / 64) (j / 64) w 0 (apart_word j t))

    apart_place : (j : ℕ) → nat_eq j i ≡ false → j ≢ i
    apart_place j e = grind (arith, e)

    at : (j : ℕ) → j < n → (b : Bool) → nat_eq j i ≡ b → bit_in (set words (i / 64) w) j ≡ get_or (set (bits_of words n) i value) j false
    at j within true t = let e : j ≡ i = grind (arith, t) in subst (λ k. bit_in (set words (i / 64) w) k ≡ get_or (set (bits_of words n) i value) k false) (sym e) same
    at j within false t = let ne = apart_place j t in word_at j ne (nat_eq (j / 64) (i / 64)) refl
        ∙ sym (bits-get_or words n j false within) ∙ sym (get_or-set_other (bits_of words n) i j value false ne)
