-- Which lists have the same inputs: an equivalence, and what sorted inputs tell of it.
use Rattle.std.proofs.Common.{◌≡◌, ◌∙◌, true, List, length, nat_eq, refl, sym}
use Rattle.std.proofs.lemmas.Bool.{and_parts}
use Rattle.std.specs.Cmp.{IsEquivalence, both_ways}
use Rattle.std.specs.Cmp.Derive.{both_true}
use Rattle.std.specs.Cmp.Lexicographic.{lists_equiv, pointwise}
use Rattle.std.specs.Cmp.{unsigned_Decides}
use Rattle.std.specs.Prelude.{◌&&◌}
use Rattle.rc_merge.specs.Inputs.{Input, are_inputs_of, same_input, same_inputs}
use Rattle.rc_merge.specs.inside.InputOrder.{input_order_total, input_ties, same_input_equivalence}
use Rattle.rc_merge.specs.inside.SortedInputs.{HoldsInputs}
use Rattle.rc_merge.specs.declared.sorted_inputs.SortedInputs.{SortedInputs}
use Rattle.rc_merge.proofs.MembersLemmas.{IsWithin, same_in_order, within_from, within_pointwise, within_to}

-- each input of the first list is one of the second
abbrev pub AreWithin : List Input → List Input → Type 0
AreWithin a b = IsWithin same_input_equivalence a b

pub record HaveSameInputs (a b : List Input) : Type 0 where
  pub lengths : length a ≡ length b
  pub forth : AreWithin a b
  pub back : AreWithin b a

pub have_same : (a b : List Input) → same_inputs a b ≡ true → HaveSameInputs a b
have_same a b same =
    let outer = and_parts (nat_eq (length a) (length b) && are_inputs_of a b) (are_inputs_of b a) same in
    let inner = and_parts (nat_eq (length a) (length b)) (are_inputs_of a b) outer.0 in
    record {
      lengths = (unsigned_Decides (length a) (length b)).0 inner.0;
      forth = within_from same_input_equivalence a b inner.1;
      back = within_from same_input_equivalence b a outer.1;
    }

pub same_from_have : (a b : List Input) → HaveSameInputs a b → same_inputs a b ≡ true
same_from_have a b have = both_true
    (both_true ((unsigned_Decides (length a) (length b)).1 have.lengths)
    (within_to same_input_equivalence a b have.forth))
    (within_to same_input_equivalence b a have.back)

turned : (a b : List Input) → same_inputs a b ≡ true → same_inputs b a ≡ true
turned a b same =
    let have = have_same a b same in
    same_from_have b a (record { lengths = sym have.lengths; forth = have.back; back = have.forth })

joined : (a b c : List Input) → same_inputs a b ≡ true → same_inputs b c ≡ true → same_inputs a c ≡ true
joined a b c first second =
    let ab = have_same a b first in
    let bc = have_same b c second in
    same_from_have a c (record {
      lengths = ab.lengths ∙ bc.lengths;
      forth = λ x has. bc.forth x (ab.forth x has);
      back = λ x has. ab.back x (bc.back x has);
    })

pub same_inputs_equivalence : IsEquivalence same_inputs
same_inputs_equivalence = record {
  refl = λ a. same_from_have a a (record { lengths = refl; forth = λ x has. has; back = λ x has. has });
  symm = λ a b. both_ways (same_inputs a b) (same_inputs b a) (turned a b) (turned b a);
  congr = λ a b c same. both_ways (same_inputs a c) (same_inputs b c) (joined b a c (turned a b same)) (joined a b c same);
}

module _ (sorted other : SortedInputs) (a b : List Input) (first : HoldsInputs sorted a)
    (second : HoldsInputs other b) (counts : sorted.count ≡ other.count) where
  lengths : length a ≡ length b
  lengths = sym first.counted ∙ counts ∙ second.counted

  if_pointwise : pointwise same_input sorted.distinct.items other.distinct.items ≡ true → same_inputs a b ≡ true
  if_pointwise same =
      let forth = within_pointwise same_input_equivalence sorted.distinct.items other.distinct.items same in
      let back = within_pointwise same_input_equivalence other.distinct.items sorted.distinct.items
      ((lists_equiv same_input_equivalence).symm other.distinct.items sorted.distinct.items ∙ same) in
      same_from_have a b (record {
        lengths = lengths;
        forth = λ x has. (second.members x).0 (forth x ((first.members x).1 has));
        back = λ x has. (first.members x).0 (back x ((second.members x).1 has));
      })

  only_pointwise : same_inputs a b ≡ true → pointwise same_input sorted.distinct.items other.distinct.items ≡ true
  only_pointwise same =
      let have = have_same a b same in
      same_in_order same_input_equivalence input_order_total input_ties sorted.distinct.items other.distinct.items
      first.ascending second.ascending
      (λ x has. (second.members x).1 (have.forth x ((first.members x).0 has)))
      (λ x has. (first.members x).1 (have.back x ((second.members x).0 has)))

  pub same_from_sorted : pointwise same_input sorted.distinct.items other.distinct.items ≡ same_inputs a b
  same_from_sorted = both_ways (pointwise same_input sorted.distinct.items other.distinct.items) (same_inputs a b)
      if_pointwise only_pointwise
