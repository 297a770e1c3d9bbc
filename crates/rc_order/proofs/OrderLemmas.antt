-- Names that are listed from the ordered set of their numbers.
use Rattle.std.proofs.Common.{◌≡◌, ◌∙◌, ◌↔◌, ◌<◌, ℕ, List, [], ◌∷◌, Contains, length, map}
use Rattle.std.proofs.Common.{ap, subst, refl, sym, arith}
use Rattle.std.proofs.lemmas.List.{get_or-map, length-map}
use Rattle.std.proofs.lemmas.Cmp.{nat_cmp_total}
use Rattle.std.proofs.lemmas.Map.Keys.{IsStrictlyIncreasing-from_sorted}
use Rattle.std.proofs.lemmas.Map.Lookups.{exact_unsigned}
use Rattle.std.proofs.lemmas.Map.Views.{btree_set_contains_from_list, btree_set_contains_iff}
use Rattle.std.specs.Ordering.{nat_cmp}
use Rattle.std.specs.List.Sorted.{IsStrictlyIncreasing}
use Rattle.std.specs.BTreeSet.{BTreeSet, IsFromIterResult}
use Rattle.rc_names.specs.Numbers.{DeclarationId, to_id}
use Rattle.rc_order.specs.Order.{AreInOrder, numbers_of}

-- the numbers of the names with these numbers are these numbers
numbers_again : (numbers : List ℕ) → numbers_of (map to_id numbers) ≡ numbers
numbers_again [] = refl
numbers_again (number ∷ numbers) = ap (λ rest. number ∷ rest) (numbers_again numbers)

-- a name is one of these exactly if its number is one of theirs
among_numbers : (names : List DeclarationId) (name : DeclarationId)
    → Contains (numbers_of names) name.0 ↔ Contains names name
among_numbers names name = (
  λ there.
      let below : there.0 < length names = omega (arith, there.1, length-map names (λ (it : DeclarationId). it.0)) in
      let same = sym (get_or-map (λ (it : DeclarationId). it.0) names there.0 name name.0 below) ∙ there.2 in
      (there.0, below, ap to_id same),
  λ there. (
    there.0,
    omega (arith, there.1, length-map names (λ (it : DeclarationId). it.0)),
    get_or-map (λ (it : DeclarationId). it.0) names there.0 name name.0 there.1 ∙ ap (λ it. it.0) there.2,
  ),
)

-- the names with the numbers of a set that was made of names are those, in order
pub listed_in_order : (names : List DeclarationId) (numbers : BTreeSet ℕ)
    → IsFromIterResult nat_cmp (numbers_of names) numbers → AreInOrder names (map to_id numbers.keys)
listed_in_order names numbers made = record {
  rising =
      subst IsStrictlyIncreasing (sym (numbers_again numbers.keys)) (IsStrictlyIncreasing-from_sorted _ made.1);
  same = λ name.
      let here = btree_set_contains_iff nat_cmp_total exact_unsigned numbers name.0 in
      let there = btree_set_contains_from_list nat_cmp_total exact_unsigned (numbers_of names) numbers made name.0 in
      let own = among_numbers names name in
      let listed = among_numbers (map to_id numbers.keys) name in
      let again = numbers_again numbers.keys in (
        λ it. own.0 (there.0 (here.1 (subst (λ keys. Contains keys name.0) again (listed.1 it)))),
        λ it. listed.0 (subst (λ keys. Contains keys name.0) (sym again) (here.0 (there.1 (own.1 it)))),
      );
}
