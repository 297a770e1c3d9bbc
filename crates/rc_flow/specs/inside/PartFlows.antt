-- The steps by which the parts of a tree carry reactivity on.
use Rattle.std.specs.Prelude.{[], List, Option, None, Some, map}
use Rattle.std.specs.Option.{option_map_or}
use Rattle.rc_hir.specs.Model.{Environment, Place}
use Rattle.rc_names.specs.Numbers.{EvaluationOrder}
use Rattle.rc_tree.specs.CollectedValues.{collected_row, collected_value, collected_value_if, instruction_of}
use Rattle.rc_tree.specs.Joining.{all_of, lists}
use Rattle.rc_tree.specs.TreeFold.{over_case, over_statement, over_terminal}
use Rattle.rc_tree.specs.Model.{ReactiveBlock, ReactiveInstruction, ReactiveStatement, ReactiveSwitchCase}
use Rattle.rc_tree.specs.Model.{ReactiveTerminal, ReactiveValue}
use Rattle.rc_flow.specs.Flows.{Steps, flowing, flows_in}
use Rattle.rc_flow.specs.Flows.Values.{own_steps, row_flows}

module _ (env : Environment) where
  -- the step of a row with that target and that value
  abbrev pub row_steps : Option Place → ReactiveValue → Steps
  row_steps target value = option_map_or (own_steps env target) (instruction_of value) []

  -- the steps of a row, and those of a value and of an optional one, whatever the id
  abbrev pub steps_of_row : ReactiveInstruction → Steps
  steps_of_row = collected_row (row_flows env)

  abbrev pub steps_of_value : EvaluationOrder → ReactiveValue → Steps
  steps_of_value id x = collected_value (row_flows env) x id

  abbrev pub steps_of_value_if : EvaluationOrder → Option ReactiveValue → Steps
  steps_of_value_if = collected_value_if (row_flows env)

  -- the steps of a statement, of a terminal, and of a case at the id of its switch
  unfoldable pub flows_of_statement : ReactiveStatement → Steps
  flows_of_statement = over_statement (flowing env)

  unfoldable pub flows_of_terminal : ReactiveTerminal → Steps
  flows_of_terminal = over_terminal (flowing env)

  unfoldable pub flows_of_case : ReactiveSwitchCase → EvaluationOrder → Steps
  flows_of_case = over_case (flowing env)

  -- the steps of statements, and of the cases of a switch
  abbrev pub flows_of_list : List ReactiveStatement → Steps
  flows_of_list xs = all_of lists (map flows_of_statement xs)

  abbrev pub flows_of_cases : EvaluationOrder → List ReactiveSwitchCase → Steps
  flows_of_cases id cases = all_of lists (map (λ case. case id) (map flows_of_case cases))

  -- the steps of an optional block
  abbrev pub flows_if : Option ReactiveBlock → Steps
  flows_if None = []
  flows_if (Some block) = flows_in env block
