-- The operands of a tree in the order of the read walk, each with the id that it is visited at and the scope blocks
-- around it. A pruned scope block is no scope block.
use Rattle.std.specs.Prelude.{List, [], ◌∷◌, Result, Ok, Err, option_map, map}
use Rattle.rc_hir.specs.Operands.{operands}
use Rattle.rc_hir.specs.Model.{Fault, HirFunction, Place}
use Rattle.rc_names.specs.Numbers.{EvaluationOrder, ScopeId}
use Rattle.rc_tree.specs.Collected.{Contributions, collected}
use Rattle.rc_tree.specs.CollectedValues.{ValueContributions, collected_row, collected_value_if}
use Rattle.rc_tree.specs.Joining.{Joining, all_of, from_around, if_there, lists}
use Rattle.rc_tree.specs.Model.{ReactiveBlock}

-- an operand where it is visited; the scopes around it are listed innermost first
pub record PlacedOperand : Type 0 where
  pub id : EvaluationOrder
  pub place : Place
  pub enclosing : List ScopeId

-- a visited operand, or the fault of a value whose operands can't be read
abbrev pub Visit : Type 0
Visit = Result PlacedOperand Fault

-- the visits of a part, from the scopes around it
abbrev pub Visits : Type 0
Visits = List ScopeId → List Visit

-- the visits of one part, and then of another, with the same scopes around
abbrev pub visits_joining : Joining Visits
visits_joining = from_around lists

-- one operand
abbrev pub operand_visit : EvaluationOrder → Place → Visits
operand_visit id place around = Ok (record { id = id; place = place; enclosing = around }) ∷ []

-- the operands that were read
abbrev pub of_operands : EvaluationOrder → Result (List Place) Fault → Visits
of_operands id (Ok places) = all_of visits_joining (map (operand_visit id) places)
of_operands id (Err fault) = λ around. Err fault ∷ []

module _ (functions : List HirFunction) where
  -- a row's target is no operand
  abbrev pub visits_of_values : ValueContributions Visits
  visits_of_values = record {
    joining = visits_joining;
    instruction = λ id x. of_operands id (operands functions x);
    target = λ id x around. [];
    row = λ x inside. inside;
  }

  -- a scope block is around the operands inside, and a pruned one isn't
  abbrev pub visits_of_parts : Contributions Visits
  visits_of_parts = record {
    joining = visits_joining;
    row = collected_row visits_of_values;
    value = collected_value_if visits_of_values;
    place = λ id x. if_there visits_joining (option_map (operand_visit id) x);
    returned = operand_visit;
    jump = λ target around. [];
    label = λ label around. [];
    scope = λ scope inside around. inside (scope ∷ around);
    pruned_scope = λ scope inside. inside;
  }

  -- the visits of a whole body, which nothing is around
  abbrev pub visits_of : ReactiveBlock → List Visit
  visits_of body = collected visits_of_parts body []
