-- A row as the pass reads it is the item of the definition, and the copies that it notes are those of the definition.
use Rattle.std.proofs.Common.{◌≡◌, ◌∙◌, ◌++◌, Bool, true, false, Option, None, Some, map, refl, sym, subst}
use Rattle.std.specs.Prelude.{if◌then◌else◌}
use Rattle.std.specs.Map.{lookup}
use Rattle.indexmap.specs.IndexMap.{insert_entry}
use Rattle.rc_hir.specs.Model.{Environment, Place}
use Rattle.rc_names.proofs.KeyedLemmas.{lookup-insert_other, lookup-insert_there}
use Rattle.rc_names.proofs.NumbersLemmas.{ids_equivalence, same_id-eq}
use Rattle.rc_names.specs.Numbers.{DeclarationId, same_id}
use Rattle.rc_merge.specs.Joining.{with_copy}
use Rattle.rc_merge.specs.Places.{Copy, Loads, Stores, Item, Passed, Other, PassedRow, item_if, item_of_value, name_of}
use Rattle.rc_merge.specs.Places.{passes}
use Rattle.rc_merge.specs.inside.Rows.{CopyPairs, copies_of, copy_if, noted, passes_if, source_in}
use Rattle.rc_hir.specs.TerminalOperands.{perhaps_place}
use Rattle.rc_tree.specs.CollectedValues.{instruction_of}
use Rattle.rc_tree.specs.ReadSteps.{targets_of}
use Rattle.rc_tree.specs.Model.{ReactiveValue}
use Rattle.rc_tree.specs.declared.value.ReactiveValue.TheVariants as reactive_values

module _ (env : Environment) where
  -- a row that passes, by its target and its value
  abbrev pub seen : Option Place → ReactiveValue → PassedRow
  seen target value = record {
    names = map (name_of env) (perhaps_place target ++ targets_of value);
    copy = copy_if env target (instruction_of value);
  }

  -- by whether a row passes: its item
  pub data IsItemOf (target : Option Place) (value : ReactiveValue) : Bool → Item → Type 0 where
    passing : IsItemOf target value true (Passed (seen target value))
    ending : IsItemOf target value false Other

  pub value_item : (target : Option Place) (value : ReactiveValue)
      → IsItemOf target value (passes_if (instruction_of value)) (item_of_value env target (instruction_of value))
  value_item target (reactive_values.Instruction x) = by (passes x)
    where
      by : (b : Bool) → IsItemOf target (reactive_values.Instruction x) b (item_if env b target x)
      by true = passing
      by false = ending
  value_item target _ = ending

inserted : (pairs : CopyPairs) (to from name : DeclarationId)
    → copies_of (insert_entry same_id pairs to from) name ≡ (if same_id name to then Some from else copies_of pairs name)
inserted pairs to from name = by (same_id name to) refl
  where
    by : (b : Bool) → same_id name to ≡ b
        → copies_of (insert_entry same_id pairs to from) name ≡ (if b then Some from else copies_of pairs name)
    by true is = subst (λ n. lookup (same_id n) (insert_entry same_id pairs to from) ≡ Some from)
        (sym (same_id-eq name to is)) (lookup-insert_there ids_equivalence to from pairs)
    by false is = lookup-insert_other ids_equivalence to from pairs name (ids_equivalence.symm to name ∙ is)

-- the copies after a row
pub noted_copies : (pairs : CopyPairs) (copy : Option Copy) → copies_of (noted pairs copy) ≡ with_copy (copies_of pairs) copy
noted_copies pairs None = refl
noted_copies pairs (Some (Loads to from)) = λ i name. inserted pairs to from name i
noted_copies pairs (Some (Stores to from)) = λ i name. inserted pairs to (source_in pairs from) name i
