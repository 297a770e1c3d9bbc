-- Inputs that stand for a list of inputs, ready to be compared.
use Rattle.std.specs.Prelude.{◌≡◌, ◌↔◌, true, List, length}
use Rattle.std.specs.List.{list_any}
use Rattle.std.specs.List.Sorted.{IsStrictlySortedBy}
use Rattle.rc_merge.specs.Inputs.{Input, same_input}
use Rattle.rc_merge.specs.inside.InputOrder.{input_order}
use Rattle.rc_merge.specs.declared.sorted_inputs.SortedInputs.{SortedInputs}

-- the sorted inputs: the length of the list, and its inputs in order without duplicates
pub record HoldsInputs (sorted : SortedInputs) (inputs : List Input) : Type 0 where
  pub counted : sorted.count ≡ length inputs
  pub ascending : IsStrictlySortedBy input_order sorted.distinct.items
  pub members : (input : Input)
      → (list_any (same_input input) sorted.distinct.items ≡ true) ↔ (list_any (same_input input) inputs ≡ true)
