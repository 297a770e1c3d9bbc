-- The steps by which rows carry reactivity on, each after those of the rows in its value.
use Rattle.std.specs.Prelude.{Bool, false, not, List, [], ◌∷◌, ◌++◌, Option, map}
use Rattle.std.specs.List.{filter}
use Rattle.std.specs.Option.{option_map_or}
use Rattle.rc_hir.specs.Environment.{type_of}
use Rattle.rc_hir.specs.Model.{Environment, InstructionValue, Place}
use Rattle.rc_hir.specs.Operands.{pattern_places}
use Rattle.rc_hir.specs.TerminalOperands.{perhaps_place}
use Rattle.rc_hir.specs.Types.{is_stable_type}
use Rattle.rc_hir.specs.declared.instruction.InstructionValue.TheVariants as kinds
use Rattle.rc_names.specs.Numbers.{IdentifierId}
use Rattle.rc_tree.specs.CollectedValues.{ValueContributions, instruction_of}
use Rattle.rc_tree.specs.Joining.{lists}
use Rattle.rc_flow.specs.declared.step.Step.{Step}
use Rattle.rc_flow.specs.declared.step.Step.TheVariants.{Carries}

-- the identifier is of a stable type; not so where a number is outside its table
abbrev pub is_stable : Environment → IdentifierId → Bool
is_stable env id = option_map_or is_stable_type (type_of env id) false

-- the names of places
abbrev pub names_of : List Place → List IdentifierId
names_of places = map (λ (place : Place). place.identifier) places

-- the name of a row's target, if it has one
abbrev pub target_name : Option Place → List IdentifierId
target_name target = names_of (perhaps_place target)

-- those of the names that aren't of a stable type
abbrev pub unstable : Environment → List IdentifierId → List IdentifierId
unstable env names = filter (λ name. not (is_stable env name)) names

-- the step of a row with that target and that instruction, if it carries reactivity on
abbrev pub own_steps : Environment → Option Place → InstructionValue → List Step
own_steps env target (kinds.LoadLocal place span) = Carries (place.identifier ∷ []) (target_name target) ∷ []
own_steps env target (kinds.StoreLocal lvalue value span) =
    Carries (value.identifier ∷ []) (lvalue.place.identifier ∷ target_name target) ∷ []
own_steps env target (kinds.Destructure lvalue value span) =
    Carries (value.identifier ∷ []) (unstable env (names_of (pattern_places lvalue.pattern)) ++ target_name target)
    ∷ []
own_steps env target (kinds.PropertyLoad object property span) =
    Carries (object.identifier ∷ []) (unstable env (target_name target)) ∷ []
own_steps env target (kinds.ComputedLoad object property span) =
    Carries (object.identifier ∷ property.identifier ∷ []) (target_name target) ∷ []
own_steps env target _ = []

-- a row has the steps of the rows in its value, and then its own; its value is an expression for many rows
abbrev pub row_flows : Environment → ValueContributions (List Step)
row_flows env = record {
  joining = lists;
  instruction = λ id x. [];
  target = λ id x. [];
  row = λ x inside. inside ++ option_map_or (own_steps env x.lvalue) (instruction_of x.value) [];
}
