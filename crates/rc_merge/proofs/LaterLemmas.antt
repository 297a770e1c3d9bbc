-- The later one of ids that may be there.
use Rattle.std.proofs.Common.{◌≡◌, ◌∙◌, ℕ, Bool, true, false, max, Option, None, Some, arith, refl, sym, ap}
use Rattle.std.proofs.lemmas.Bool.Decides.{nat_tests}
use Rattle.std.specs.Prelude.{if◌then◌else◌, nat_lt}
use Rattle.rc_names.specs.Numbers.{EvaluationOrder, to_id}
use Rattle.rc_merge.specs.LastUses.{later_of}
use Rattle.rc_merge.specs.inside.LastUsesMet.{later_if}

max_right : (a b : ℕ) → nat_lt a b ≡ true → b ≡ max a b
max_right a b e = grind (arith, nat_tests)

max_left : (a b : ℕ) → nat_lt a b ≡ false → a ≡ max a b
max_left a b e = grind (arith, nat_tests)

max_within : (a b n : ℕ) → nat_lt b a ≡ false → max a (max b n) ≡ max b n
max_within a b n e = grind (arith, nat_tests)

max_alone : (a b : ℕ) → nat_lt b a ≡ false → max a b ≡ b
max_alone a b e = grind (arith, nat_tests)

-- the later one of ids, by their numbers
abbrev pub numbers : Option EvaluationOrder → Option ℕ
numbers None = None
numbers (Some id) = Some id.0

abbrev pub later_number : ℕ → Option ℕ → Option ℕ
later_number n None = Some n
later_number n (Some m) = Some (max n m)

pub same_numbers : (a b : Option EvaluationOrder) → numbers a ≡ numbers b → a ≡ b
same_numbers None None e = refl
same_numbers None (Some b) e = cc
same_numbers (Some a) None e = cc
same_numbers (Some a) (Some b) e = let n : a.0 ≡ b.0 = cc in ap (λ (k : ℕ). Some (to_id k)) n

pub later_is : (id : EvaluationOrder) (o : Option EvaluationOrder) → numbers (later_of id o) ≡ later_number id.0 (numbers o)
later_is id None = refl
later_is id (Some other) = by (nat_lt id.0 other.0) refl
  where
    by : (b : Bool) → nat_lt id.0 other.0 ≡ b
        → numbers (if b then Some other else Some id) ≡ Some (max id.0 other.0)
    by true e = ap (λ n. Some n) (max_right id.0 other.0 e)
    by false e = ap (λ n. Some n) (max_left id.0 other.0 e)

-- later ones in either order are the same
pub later_swap : (a b : EvaluationOrder) (o : Option EvaluationOrder)
    → later_of a (later_of b o) ≡ later_of b (later_of a o)
later_swap a b o = same_numbers (later_of a (later_of b o)) (later_of b (later_of a o))
    (later_is a (later_of b o) ∙ ap (later_number a.0) (later_is b o) ∙ by (numbers o)
    ∙ sym (later_is b (later_of a o) ∙ ap (later_number b.0) (later_is a o)))
  where
    by : (o : Option ℕ) → later_number a.0 (later_number b.0 o) ≡ later_number b.0 (later_number a.0 o)
    by None = ap (λ n. Some n) (omega arith)
    by (Some n) = ap (λ n. Some n) (omega arith)

-- the later one of two, and another
pub later_grouped : (a : EvaluationOrder) (b o : Option EvaluationOrder)
    → later_if (later_of a b) o ≡ later_if b (later_of a o)
later_grouped a None o = refl
later_grouped a (Some b) o =
    same_numbers (later_if (later_of a (Some b)) o) (later_of b (later_of a o))
    (by (nat_lt a.0 b.0) refl ∙ sym (later_is b (later_of a o) ∙ ap (later_number b.0) (later_is a o)))
  where
    of : (n m : ℕ) (q : Option ℕ) (k : ℕ) → k ≡ max n m → later_number k q ≡ later_number m (later_number n q)
    of n m None k e = ap (λ n. Some n) (omega (arith, e))
    of n m (Some q) k e = ap (λ n. Some n) (omega (arith, e))

    by : (t : Bool) → nat_lt a.0 b.0 ≡ t → numbers (later_if (if t then Some b else Some a) o)
        ≡ later_number b.0 (later_number a.0 (numbers o))
    by true e = later_is b o ∙ of a.0 b.0 (numbers o) b.0 (max_right a.0 b.0 e)
    by false e = later_is a o ∙ of a.0 b.0 (numbers o) a.0 (max_left a.0 b.0 e)

-- an earlier id adds nothing to a later one
pub later_absorbed : (a b : EvaluationOrder) → nat_lt b.0 a.0 ≡ false → (o : Option EvaluationOrder)
    → later_of a (later_of b o) ≡ later_of b o
later_absorbed a b e o = same_numbers (later_of a (later_of b o)) (later_of b o)
    (later_is a (later_of b o) ∙ ap (later_number a.0) (later_is b o) ∙ by (numbers o) ∙ sym (later_is b o))
  where
    by : (o : Option ℕ) → later_number a.0 (later_number b.0 o) ≡ later_number b.0 o
    by None = ap (λ n. Some n) (max_alone a.0 b.0 e)
    by (Some n) = ap (λ n. Some n) (max_within a.0 b.0 n e)
