use Rattle.std.proofs.Common.{◌∙◌, rules, sym}
use Rattle.std.proofs.lemmas.List.Filters.{dedup_is}
use Rattle.std.proofs.lemmas.List.Kept.{IsStrictlySortedBy-dedup}
use Rattle.std.proofs.lemmas.List.Sorted.{list_any-IsPermutation}
use Rattle.rc_merge.specs.Inputs.{Input, same_input}
use Rattle.rc_merge.specs.inside.InputOrder.{input_order_total, input_ties, same_input_equivalence}
use Rattle.rc_merge.proofs.MembersLemmas.{within_dedup, within_from_dedup}
use Rattle.rc_merge.proofs.sorted_inputs.SortedInputs.sort.Goals as goal

pub returns : goal.returns
returns c =
    let is = dedup_is same_input c.sort_unstable.new.self.items c.dedup.new.self.items c.dedup.ensures.filtered in
    let moved = λ (x : Input). list_any-IsPermutation (same_input x) c.args.inputs.items c.sort_unstable.new.self.items
    c.sort_unstable.ensures.permutation in
    record {
      counted = search rules;
      ascending = rw is (IsStrictlySortedBy-dedup input_order_total input_ties c.sort_unstable.new.self.items
          c.sort_unstable.ensures.sorted);
      members = λ x. rw is (
        (λ has. moved x ∙ within_from_dedup same_input_equivalence c.sort_unstable.new.self.items x has),
        (λ has. within_dedup same_input_equivalence c.sort_unstable.new.self.items x (sym (moved x) ∙ has)),
      );
    }
