-- The laws of joining: for lists, and for contents that depend on the surroundings.
use Rattle.std.proofs.Common.{◌≡◌, ◌∙◌, List, [], ◌∷◌, ◌++◌, append_assoc, refl, sym, ap}
use Rattle.std.proofs.lemmas.List.{append-nil}
use Rattle.rc_tree.specs.Joining.{Joining, lists, from_around, all_of}
use Rattle.rc_tree.specs.inside.JoiningLaws.{IsMonoid}

-- lists, appended
pub lists_monoid : {X : Type 0} → IsMonoid (lists {X = X})
lists_monoid = record {
  before = λ x. refl;
  behind = λ x. append-nil x;
  associative = λ x y z. append_assoc x y z;
}

-- contents that depend on the surroundings, given the laws for their values
pub around_monoid : {W A : Type 0} (j : Joining A) → IsMonoid j → IsMonoid (from_around {W = W} j)
around_monoid j monoid = record {
  before = λ x. λ i around. monoid.before (x around) i;
  behind = λ x. λ i around. monoid.behind (x around) i;
  associative = λ x y z. λ i around. monoid.associative (x around) (y around) (z around) i;
}

module _ {A : Type 0} (j : Joining A) (monoid : IsMonoid j) where
  -- the contents of the parts of two lists, one after the other
  pub all_of-append : (xs ys : List A) → all_of j (xs ++ ys) ≡ j.both (all_of j xs) (all_of j ys)
  all_of-append [] ys = sym (monoid.before (all_of j ys))
  all_of-append (x ∷ xs) ys = ap (j.both x) (all_of-append xs ys)
      ∙ sym (monoid.associative x (all_of j xs) (all_of j ys))
