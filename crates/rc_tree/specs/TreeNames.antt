-- The numbers in a tree, each with the table that it indexes, and the fact that each of them is in its table.
use Rattle.std.specs.Prelude.{◌⊎◌, List, [], ◌++◌, All, Any}
use Rattle.std.specs.List.{flat_map}
use Rattle.rc_hir.specs.Names.{IsInTable, IsOutside, FunctionInTables, EnvironmentInTables, lengths}
use Rattle.rc_hir.specs.Names.{NamesOutsideIn, NamesOutsideInEnvironment}
use Rattle.rc_hir.specs.PartNames.{Name, parameter_names, names_if, place_names, scope_name}
use Rattle.rc_hir.specs.ValueNames.{value_names}
use Rattle.rc_hir.specs.Model.{Environment, Fault}
use Rattle.rc_tree.specs.Collected.{Contributions, collected, collected_list, collected_statement, collected_terminal}
use Rattle.rc_tree.specs.CollectedValues.{ValueContributions, collected_row, collected_value_if}
use Rattle.rc_tree.specs.Joining.{lists}
use Rattle.rc_tree.specs.Model.{ReactiveFunction, ReactiveBlock, ReactiveStatement, ReactiveTerminal}

-- the numbers in a part of the tree
abbrev pub Names : Type 0
Names = List Name

-- the numbers of a value are those of its instructions, and a row has those of its target too
abbrev pub names_of_values : ValueContributions Names
names_of_values = record {
  joining = lists;
  instruction = λ id x. value_names x;
  target = λ id x. names_if place_names x;
  row = λ x inside. inside;
}

-- a block's own scope comes before the numbers inside; a label's and a jump's number indexes no table
abbrev pub names_of_parts : Contributions Names
names_of_parts = record {
  joining = lists;
  row = collected_row names_of_values;
  value = collected_value_if names_of_values;
  place = λ id x. names_if place_names x;
  returned = λ id x. place_names x;
  jump = λ target. [];
  label = λ label. [];
  scope = λ scope inside. scope_name scope ++ inside;
  pruned_scope = λ scope inside. scope_name scope ++ inside;
}

-- the numbers in a block, in a statement, in a terminal, and in a list of statements
abbrev pub names_in : ReactiveBlock → Names
names_in = collected names_of_parts

abbrev pub names_in_statement : ReactiveStatement → Names
names_in_statement = collected_statement names_of_parts

abbrev pub names_in_terminal : ReactiveTerminal → Names
names_in_terminal = collected_terminal names_of_parts

abbrev pub names_in_list : List ReactiveStatement → Names
names_in_list = collected_list names_of_parts

-- every number of the tree, of each function of the table, and of the environment is in its table
pub record TreeInTables (func : ReactiveFunction) (env : Environment) : Type 0 where
  pub params : All (IsInTable (lengths env 0)) (flat_map parameter_names func.params)
  pub body : All (IsInTable (lengths env 0)) (names_in func.body)
  pub functions : All (FunctionInTables env) env.functions
  pub environment : EnvironmentInTables env

-- the fault names a number of the tree, of a function of the table, or of the environment, which is outside its table
abbrev pub TreeNamesOutside : ReactiveFunction → Environment → Fault → Type 0
TreeNamesOutside func env fault =
    Any (IsOutside (lengths env 0) fault) (flat_map parameter_names func.params ++ names_in func.body)
    ⊎ (Any (NamesOutsideIn env fault) env.functions ⊎ NamesOutsideInEnvironment env fault)
