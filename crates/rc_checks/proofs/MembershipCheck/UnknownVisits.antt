-- The first number that the membership check looks up in vain is one of the tree, of a function of the table, or of the
-- environment, and is outside its table.
use Rattle.std.proofs.Common.{◌≡◌, inl, inr, List, [], ◌∷◌, ◌++◌, Option, None, Some, option_map, map, Result, Ok, Err}
use Rattle.std.proofs.Common.{arith, refl, sym, ap, subst}
use Rattle.std.specs.List.{Any, flat_map}
use Rattle.rc_hir.specs.Operands.{operands}
use Rattle.rc_hir.specs.PartNames.{Name, names_if, place_names, scope_name}
use Rattle.rc_hir.specs.ValueNames.{value_names}
use Rattle.rc_hir.specs.Model.{Environment, Fault, InstructionValue, Place}
use Rattle.rc_names.specs.Numbers.{EvaluationOrder, ScopeId}
use Rattle.rc_tree.specs.Joining.{all_of, if_there}
use Rattle.rc_tree.specs.TreeNames.{TreeNamesOutside, names_of_parts, names_of_values}
use Rattle.rc_tree.specs.Model.{ReactiveFunction}
use Rattle.rc_tree.proofs.CollectedRelated.{RelatedParts, RelatedValues, collected_related, rows_related}
use Rattle.rc_tree.proofs.CollectedRelated.{values_related_if}
use Rattle.rc_tree.proofs.StepLemmas.{Err-injective}
use Rattle.rc_tree.proofs.AnyLemmas.{Any-made, Any-one, Any-right}
use Rattle.rc_checks.specs.Membership.{IsFirstUnknown, outside}
use Rattle.rc_tree.specs.Visits.{PlacedOperand, Visit, Visits, of_operands, operand_visit, visits_joining}
use Rattle.rc_tree.specs.Visits.{visits_of, visits_of_parts, visits_of_values}
use Rattle.rc_checks.proofs.FaultNames as covering
use Rattle.rc_checks.proofs.FaultNames.{alone, behind, both, none, of_body}
use Rattle.rc_checks.proofs.MembershipCheck.UnknownOperands.{CoversRead, IsUnknownPlace, operand_unknown, operands_read}
use Rattle.rc_checks.proofs.MembershipCheck.UnknownOperands.{place_covers as one_place_covers}

-- operands one after the other are visited one after the other
visits-flat : (id : EvaluationOrder) (places : List Place) (around : List ScopeId) →
    all_of visits_joining (map (operand_visit id) places) around
    ≡ flat_map (λ place. operand_visit id place around) places
visits-flat id [] around = refl
visits-flat id (place ∷ places) around = ap (λ later. operand_visit id place around ++ later)
    (visits-flat id places around)

module _ (env : Environment) (fault : Fault) (blocks : List ScopeId) where
  -- the look-up for the visit ends in the fault
  abbrev IsUnknown : Visit → Type 0
  IsUnknown visit = outside env blocks visit ≡ Err fault

  -- where one of the visits is unknown, the fault names one of the numbers
  abbrev Covers : List Name → List Visit → Type 0
  Covers = covering.Covers env fault IsUnknown

  -- visited operands of which the fault names a number
  visited : {names : List Name} (id : EvaluationOrder) (places : List Place) (around : List ScopeId) →
      covering.Covers env fault (IsUnknownPlace env fault) names places →
      Covers names (flat_map (λ place. operand_visit id place around) places)
  visited id places around covered = record {
    named = λ some.
        let it = Any-made IsUnknown (λ place. operand_visit id place around) places some in
        let operand : PlacedOperand = record { id = id; place = it.1; enclosing = around } in
        elim (operand_unknown env fault blocks operand (Any-one IsUnknown (Ok operand) it.4)) [
          | inl missed ↦ covered.named (it.0, it.1, it.2, it.3, missed)
          | inr missed ↦ inr (inr missed)
        ];
  }

  place_covers : (id : EvaluationOrder) (place : Place) (around : List ScopeId) →
      Covers (place_names place) (operand_visit id place around)
  place_covers id place around = visited id (place ∷ []) around (one_place_covers env fault place)

  -- a place that may be left out
  binding_covers : (id : EvaluationOrder) (binding : Option Place) (around : List ScopeId) →
      Covers (names_if place_names binding) (if_there visits_joining (option_map (operand_visit id) binding) around)
  binding_covers id None around = none
  binding_covers id (Some place) around = place_covers id place around

  -- the operands that were read, and those of an instruction's value
  read_covers : {names : List Name} (id : EvaluationOrder) (read : Result (List Place) Fault) (around : List ScopeId) →
      CoversRead env fault names read → Covers names (of_operands id read around)
  read_covers {names = names} id (Ok places) around covered =
      subst (Covers names) (sym (visits-flat id places around)) (visited id places around covered)
  read_covers id (Err other) around named = alone (Err other) (λ e. named (Err-injective other fault e))

  operands_cover : (id : EvaluationOrder) (x : InstructionValue) (around : List ScopeId) →
      Covers (value_names x) (of_operands id (operands env.functions x) around)
  operands_cover id x around = read_covers id (operands env.functions x) around (operands_read env fault x)

  -- where a visit of a part is unknown, whatever is around, the fault names one of the part's numbers
  abbrev Covered : List Name → Visits → Type 0
  Covered names visits = (around : List ScopeId) → Covers names (visits around)

  -- a row's target is no operand
  values_covered : RelatedValues Covered names_of_values (visits_of_values env.functions)
  values_covered = record {
    joined = record { nothing = λ around. none; both = λ x x1 y y1 h k around. both (h around) (k around) };
    instruction = λ id x around. operands_cover id x around;
    target = λ id x around. none;
    row = λ x y z h. h;
  }

  parts_covered : RelatedParts Covered names_of_parts (visits_of_parts env.functions)
  parts_covered = record {
    joined = values_covered.joined;
    row = rows_related Covered names_of_values (visits_of_values env.functions) values_covered;
    value = values_related_if Covered names_of_values (visits_of_values env.functions) values_covered;
    place = λ id x around. binding_covers id x around;
    returned = λ id x around. place_covers id x around;
    jump = λ target around. none;
    label = λ label around. none;
    scope = λ scope x y h around. behind (scope_name scope) (h (scope ∷ around));
    pruned_scope = λ scope x y h around. behind (scope_name scope) (h around);
  }

-- the fault of the first visit that is unknown names a number of the tree, of a function of the table, or of the
-- environment
pub first_unknown_outside : (env : Environment) (fault : Fault) (blocks : List ScopeId) (func : ReactiveFunction) →
    IsFirstUnknown env blocks (visits_of env.functions func.body) fault → TreeNamesOutside func env fault
first_unknown_outside env fault blocks func first =
    let whole = collected_related (Covered env fault blocks) names_of_parts (visits_of_parts env.functions)
    (parts_covered env fault blocks) func.body [] in
    let missed : Any (IsUnknown env fault blocks) (visits_of env.functions func.body) =
    subst (Any (IsUnknown env fault blocks)) (sym first.parts)
    (Any-right (IsUnknown env fault blocks) first.earlier (first.visit ∷ first.later)
    (0, first.visit, omega arith, refl, first.unknown))
    in
    of_body func env fault (whole.named missed)
