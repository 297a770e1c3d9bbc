-- Two ids with one number are equal.
use Rattle.std.proofs.Common.{◌≡◌, true, ap, eqb-true}
use Rattle.std.specs.Cmp.{IsEquivalence}
use Rattle.std.proofs.lemmas.Cmp.{nat_eq_equiv}
use Rattle.rc_names.specs.Numbers.{to_id, same_id}
use Rattle.rc_names.specs.declared.numbers.Id.{Id}

pub same_id-eq : {K : Type 0} (a b : Id K) → same_id a b ≡ true → a ≡ b
same_id-eq a b same = ap to_id (eqb-true a.0 b.0 same)

pub ids_equivalence : {K : Type 0} → IsEquivalence (same_id {K = K})
ids_equivalence = record {
  refl = λ x. nat_eq_equiv.refl x.0;
  symm = λ x y. nat_eq_equiv.symm x.0 y.0;
  congr = λ x y z. nat_eq_equiv.congr x.0 y.0 z.0;
}
