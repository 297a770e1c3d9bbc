-- A number without a sign or a zero in front is read as what its digits write.
use Rattle.std.proofs.Common.{◌≡◌, ◌≢◌, ◌⊎◌, inl, inr, ℕ, ◌^◌, ◌<◌, ◌≤◌, List, [], length, get_or, decimal, Result, Ok}
use Rattle.std.proofs.Common.{Err, refl, ap, sym, subst, ◌∙◌, ◌==◌, arith, false, true, is_ok, slice_index, zero, suc}
use Rattle.std.proofs.lemmas.Bool.Decides.{nat_tests}
use Rattle.std.proofs.lemmas.List.{nil_from_length}
use Rattle.std.proofs.lemmas.Fmt.{decimal-digits_value, decimal_digit, first_decimal, parse-decimal}
use Rattle.std.proofs.lemmas.Str.Parse.{numerals_by_value, tells_digits}
use Rattle.std.specs.Str.Parse.{IsNumeral, ParsesUnsigned, digits_value, without_leading_plus}

-- digits without a zero in front aren't those of zero
not_zero : (word : List ℕ) (units : ℕ) → word ≡ decimal units → get_or word 0 0 ≢ 48 → 1 ≤ units
not_zero word zero is no_zero =
    absurd (no_zero (ap (λ w. get_or w 0 0) (is ∙ decimal_digit 0 (omega arith))))
not_zero word (suc units) is no_zero = omega arith

-- without a plus in front nothing is left out
plain : (word : List ℕ) → get_or word 0 0 ≢ 43 → without_leading_plus word ≡ word
plain word no_plus =
    let other : (slice_index word 0 == 43) ≡ false = grind (arith, nat_tests, no_plus) in rw other refl

module _ {E : Type 0} (word : List ℕ) (units : ℕ) (read : Result ℕ E) (parses : ParsesUnsigned 32 10 word read) where
  -- what is read without a plus or a zero in front has these digits, and isn't zero
  pub digits_of_read : read ≡ Ok units → get_or word 0 0 ≢ 43 → get_or word 0 0 ≢ 48
      → (word ≡ decimal units) × (1 ≤ units)
  digits_of_read is no_plus no_zero =
      let known : (IsNumeral 10 (without_leading_plus word) × (digits_value 10 (without_leading_plus word) < 2 ^ 32))
      × (units ≡ digits_value 10 (without_leading_plus word)) =
      subst (λ r. ParsesUnsigned 32 10 word r) is parses in
      let number : (IsNumeral 10 word × (digits_value 10 word < 2 ^ 32)) × (units ≡ digits_value 10 word) =
      rw (plain word no_plus) at known in
      let spelled : decimal (digits_value 10 word) ≡ word =
      decimal-digits_value (numerals_by_value _ tells_digits) word number.0.0.1 number.0.0.0
      (λ nought. absurd (no_zero nought)) (omega (arith, number.0.1)) in
      let same : word ≡ decimal units = sym spelled ∙ ap decimal (sym number.1) in
      (same, not_zero word units same no_zero)

  -- digits are read
  pub read_of_digits : word ≡ decimal units → units < 2 ^ 32 → read ≡ Ok units
  read_of_digits is small = parse-decimal 32 units word read small (omega arith) is parses

-- digits of a number that isn't zero begin with no plus and no zero
pub first_of_digits : (word : List ℕ) (units : ℕ) → word ≡ decimal units → 1 ≤ units → units < 2 ^ 32
    → 48 < get_or word 0 0
first_of_digits word units is some small = rw is (first_decimal units some (omega arith))

-- no digits of a number that isn't zero are left out
pub not_digits : (word : List ℕ) (units : ℕ) → (length word ≡ 0) ⊎ ((get_or word 0 0 ≡ 43) ⊎ (get_or word 0 0 ≡ 48))
    → word ≡ decimal units → 1 ≤ units → units < 2 ^ 32 → ⊥
not_digits word units (inl none) is some small =
    let longer = first_of_digits word units is some small in
    let empty : word ≡ [] = nil_from_length word none in
    let none_there : get_or word 0 0 ≡ 0 = rw empty refl in omega (arith, longer, none_there)
not_digits word units (inr (inl plus)) is some small = omega (arith, first_of_digits word units is some small, plus)
not_digits word units (inr (inr nought)) is some small =
    omega (arith, first_of_digits word units is some small, nought)

module _ {E : Type 0} (word : List ℕ) (most : ℕ) (read : Result ℕ E) (parses : ParsesUnsigned 32 10 word read)
    (fits : most < 2 ^ 32) where
  -- what is read is within the range, or no number of the range has these digits
  pub too_many : (units : ℕ) → read ≡ Ok units → most < units → (other : ℕ) → 1 ≤ other → other ≤ most
      → word ≡ decimal other → ⊥
  too_many units is more other some few same =
      let read_other : read ≡ Ok other = read_of_digits word other read parses same (omega (arith, few, fits)) in
      let both : Ok units ≡ Ok other = sym is ∙ read_other in
      let one : units ≡ other = cc in
      omega (arith, one, more, few)

  pub not_read : (error : E) → read ≡ Err error → (other : ℕ) → 1 ≤ other → other ≤ most → word ≡ decimal other → ⊥
  not_read error is other some few same =
      let read_other : read ≡ Ok other = read_of_digits word other read parses same (omega (arith, few, fits)) in
      let both : Err error ≡ Ok other = sym is ∙ read_other in
      let bad : false ≡ true = ap is_ok both in cc
