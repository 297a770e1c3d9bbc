-- Numbers are given to parts one after the other.
use Rattle.std.proofs.Common.{◌≡◌, ℕ, ◌+◌, ◌<◌, ◌≤◌, List, [], ◌∷◌, ◌++◌, length, get_or, drop, refl, sym, ap, ◌∙◌}
use Rattle.std.proofs.Common.{arith, append_assoc, append-nil, subst}
use Rattle.std.proofs.lemmas.List.{drop_all, drop_more, length-append}
use Rattle.rc_answer.specs.inside.Numbering.{Grows}
use Rattle.rc_answer.specs.declared.numbering.Numbered.{Numbered}

pub grows_none : {T : Type 0} (n : Numbered T) → Grows [] n n
grows_none n = record { waiting = sym (append-nil n.waiting); next = omega arith }

pub grows_then : {T : Type 0} (xs ys : List T) (a b c : Numbered T) → Grows xs a b → Grows ys b c
    → Grows (xs ++ ys) a c
grows_then xs ys a b c first second = record {
  waiting = second.waiting ∙ ap (λ z. z ++ ys) first.waiting ∙ append_assoc a.waiting xs ys;
  next = omega (arith, first.next, second.next, length-append xs ys);
}

-- of all these parts, the rest has no numbers yet
pub record Remains {T : Type 0} (rest all : List T) (old new : Numbered T) : Type 0 where
  pub waiting : new.waiting ++ rest ≡ old.waiting ++ all
  pub next : new.next + length rest ≡ old.next + length all

pub all_remain : {T : Type 0} (all : List T) (n : Numbered T) → Remains all all n n
all_remain all n = record { waiting = refl; next = refl }

pub fewer_remain : {T : Type 0} (xs rest all : List T) (old mid new : Numbered T) → Remains (xs ++ rest) all old mid
    → Grows xs mid new → Remains rest all old new
fewer_remain xs rest all old mid new before grown = record {
  waiting = ap (λ z. z ++ rest) grown.waiting ∙ append_assoc mid.waiting xs rest ∙ before.waiting;
  next = omega (arith, before.next, grown.next, length-append xs rest);
}

pub none_remains : {T : Type 0} (all : List T) (old new : Numbered T) → Remains [] all old new → Grows all old new
none_remains all old new before = record {
  waiting = sym (append-nil new.waiting) ∙ before.waiting;
  next = omega (arith, before.next);
}

-- items whose parts get numbers, one item after the other
module _ {A B T : Type 0} (each : ℕ → A → B) (inside : A → List T) (all : ℕ → List A → List B)
    (inside_all : List A → List T) where
  -- what the items give, and the parts in them, item by item
  pub record GoesThrough : Type 0 where
    pub none : (n : ℕ) → all n [] ≡ []
    pub some : (n : ℕ) (x : A) (xs : List A) → all n (x ∷ xs) ≡ each n x ∷ all (n + length (inside x)) xs
    pub none_inside : inside_all [] ≡ []
    pub some_inside : (x : A) (xs : List A) → inside_all (x ∷ xs) ≡ inside x ++ inside_all xs

  -- these are done, and the rest isn't
  pub record IsDone (rest xs : List A) (done : List B) (old new : Numbered T) : Type 0 where
    pub given : done ++ all new.next rest ≡ all old.next xs
    pub remains : Remains (inside_all rest) (inside_all xs) old new

  module _ (goes : GoesThrough) where
    pub nothing_done : (xs : List A) (done : List B) (n : Numbered T) → done ≡ [] → IsDone xs xs done n n
    nothing_done xs done n none = record {
      given = ap (λ z. z ++ all n.next xs) none;
      remains = all_remain (inside_all xs) n;
    }

    pub one_done : (x y : A) (rest xs : List A) (done : List B) (b : B) (old mid new : Numbered T)
        → IsDone (y ∷ rest) xs done old mid → x ≡ y → b ≡ each mid.next x → Grows (inside x) mid new
        → IsDone rest xs (done ++ b ∷ []) old new
    one_done x y rest xs done b old mid new before same is grown =
        let at = subst (λ z. IsDone (z ∷ rest) xs done old mid) (sym same) before in
        record {
          given = append_assoc done (b ∷ []) (all new.next rest)
              ∙ ap (λ z. done ++ z) (rw (is, grown.next) (sym (goes.some mid.next x rest))) ∙ at.given;
          remains = fewer_remain (inside x) (inside_all rest) (inside_all xs) old mid new
              (subst (λ z. Remains z (inside_all xs) old mid) (goes.some_inside x rest) at.remains) grown;
        }

    pub next_done : (i : ℕ) (x : A) (xs : List A) (done later : List B) (b : B) (old mid new : Numbered T)
        → i < length xs → x ≡ get_or xs i x → IsDone (drop i xs) xs done old mid → b ≡ each mid.next x
        → Grows (inside x) mid new → later ≡ done ++ b ∷ [] → IsDone (drop (i + 1) xs) xs later old new
    next_done i x xs done later b old mid new lt same before is grown pushed =
        subst (λ z. IsDone (drop (i + 1) xs) xs z old new) (sym pushed)
        (one_done x (get_or xs i x) (drop (i + 1) xs) xs done b old mid new
        (subst (λ z. IsDone z xs done old mid) (drop_more xs i x lt) before) same is grown)

    pub all_done : (i : ℕ) (xs : List A) (done : List B) (old new : Numbered T) → length xs ≤ i
        → IsDone (drop i xs) xs done old new → (done ≡ all old.next xs) × Grows (inside_all xs) old new
    all_done i xs done old new le before =
        let at = subst (λ z. IsDone z xs done old new) (drop_all i xs le) before in (
          sym (append-nil done) ∙ ap (λ z. done ++ z) (sym (goes.none new.next)) ∙ at.given,
          none_remains (inside_all xs) old new
              (subst (λ z. Remains z (inside_all xs) old new) goes.none_inside at.remains),
        )
