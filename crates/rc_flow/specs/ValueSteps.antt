-- What the statements of a tree say of values that are new each time that they are made: where such a value is made,
-- where a name gets the value of another, and where a scope block ends.
--
-- Rows inside values aren't statements.
use Rattle.std.specs.Prelude.{Bool, true, false, List, [], ◌∷◌, ◌++◌, Option, map}
use Rattle.std.specs.Option.{option_map_or}
use Rattle.rc_hir.specs.Model.{InstructionValue, Place}
use Rattle.rc_hir.specs.TerminalOperands.{perhaps_place}
use Rattle.rc_hir.specs.declared.instruction.InstructionValue.TheVariants as kinds
use Rattle.rc_tree.specs.Collected.{Contributions, collected}
use Rattle.rc_tree.specs.CollectedValues.{instruction_of}
use Rattle.rc_tree.specs.Joining.{from_around, lists}
use Rattle.rc_tree.specs.Model.{ReactiveBlock, ReactiveInstruction}
use Rattle.rc_flow.specs.declared.value_step.ValueStep.{ValueStep}
use Rattle.rc_flow.specs.declared.value_step.ValueStep.TheVariants.{Makes, Copies, Ends}

-- the target gets a new value, if there is one
abbrev pub made : Bool → Option Place → List ValueStep
made in_scope target = map (λ (place : Place). Makes place.identifier in_scope) (perhaps_place target)

-- the target gets the value of a place, if there is one
abbrev pub copied : Place → Option Place → List ValueStep
copied from target = map (λ (place : Place). Copies from.identifier place.identifier) (perhaps_place target)

-- the steps of an instruction with its row's target
abbrev pub steps_of_instruction : Bool → Option Place → InstructionValue → List ValueStep
steps_of_instruction in_scope target (kinds.ArrayExpression elements span) = made in_scope target
steps_of_instruction in_scope target (kinds.ObjectExpression properties span) = made in_scope target
steps_of_instruction in_scope target (kinds.JsxExpression tag props children span) = made in_scope target
steps_of_instruction in_scope target (kinds.JsxFragment children span) = made in_scope target
steps_of_instruction in_scope target (kinds.NewExpression callee args span) = made in_scope target
steps_of_instruction in_scope target (kinds.StoreLocal lvalue value span) =
    Copies value.identifier lvalue.place.identifier ∷ []
steps_of_instruction in_scope target (kinds.LoadLocal place span) = copied place target
steps_of_instruction in_scope target _ = []

-- the steps of a part, by whether a scope block is around it
abbrev pub Steps : Type 0
Steps = Bool → List ValueStep

-- the steps of a row: what it makes or copies, by the instruction of its value
abbrev pub steps_of_row : ReactiveInstruction → Steps
steps_of_row row in_scope = option_map_or (steps_of_instruction in_scope row.lvalue) (instruction_of row.value) []

-- a scope block is around its inside, and ends after it; a pruned one isn't a scope block
abbrev pub value_step_parts : Contributions Steps
value_step_parts = record {
  joining = from_around lists;
  row = steps_of_row;
  value = λ id x in_scope. [];
  place = λ id x in_scope. [];
  returned = λ id x in_scope. [];
  jump = λ target in_scope. [];
  label = λ label in_scope. [];
  scope = λ scope inside in_scope. inside true ++ Ends scope ∷ [];
  pruned_scope = λ scope inside. inside;
}

-- the steps of a whole body, around which no scope block is
abbrev pub value_steps_in : ReactiveBlock → List ValueStep
value_steps_in body = collected value_step_parts body false
