-- Every number of a graph and of its environment is in its table: it is below that table's length.
use Rattle.std.specs.Prelude.{◌≡◌, ◌<◌, ◌≤◌, ◌⊎◌, ℕ, List, Result, Ok, Err, length, All, Any}
use Rattle.rc_hir.specs.GraphNames.{function_names}
use Rattle.rc_hir.specs.PartNames.{Name}
use Rattle.rc_hir.specs.EnvironmentNames.{environment_names}
use Rattle.rc_hir.specs.Model.{Fault, TableName, HirFunction, Environment, Lengths}
use Rattle.rc_hir.specs.declared.fault.Fault.TheVariants.{BadName}
use Rattle.rc_hir.specs.declared.fault.TableName.TheVariants as table_names

-- the length of each table, where the function at hand has that many rows
abbrev pub lengths : Environment → ℕ → Lengths
lengths env rows = record {
  identifiers = length env.identifiers;
  types = length env.types;
  scopes = length env.scopes;
  functions = length env.functions;
  instructions = rows;
  shapes = length env.shapes;
}

-- the length of a table; declarations share the identifiers' range of numbers
abbrev pub length_of : Lengths → TableName → ℕ
length_of tables table_names.Identifiers = tables.identifiers
length_of tables table_names.Declarations = tables.identifiers
length_of tables table_names.Types = tables.types
length_of tables table_names.Scopes = tables.scopes
length_of tables table_names.Functions = tables.functions
length_of tables table_names.Instructions = tables.instructions
length_of tables table_names.Shapes = tables.shapes

-- the number is in its table
abbrev pub IsInTable : Lengths → Name → Type 0
IsInTable tables name = name.1 < length_of tables name.0

-- the fault names the number, which is outside its table
abbrev pub IsOutside : Lengths → Fault → Name → Type 0
IsOutside tables fault name = (fault ≡ BadName name.0 name.1) × (length_of tables name.0 ≤ name.1)

-- a check of these numbers succeeds if each is in its table, and else its fault names one that isn't
unfoldable pub IsCheckOf : Lengths → List Name → Result (Unit {0}) Fault → Type 0
IsCheckOf tables names (Ok done) = All (IsInTable tables) names
IsCheckOf tables names (Err fault) = Any (IsOutside tables fault) names

-- every number of a function is in its table
abbrev pub FunctionInTables : Environment → HirFunction → Type 0
FunctionInTables env function =
    All (IsInTable (lengths env (length function.instructions))) (function_names function)

-- every number of the environment outside its functions is in its table
abbrev pub EnvironmentInTables : Environment → Type 0
EnvironmentInTables env = All (IsInTable (lengths env 0)) (environment_names env)

-- every number of the graph, of each function of the table, and of the environment is in its table
pub record NamesInTables (hir : HirFunction) (env : Environment) : Type 0 where
  pub graph : FunctionInTables env hir
  pub functions : All (FunctionInTables env) env.functions
  pub environment : EnvironmentInTables env

-- the fault names a number of that function, which is outside its table
abbrev pub NamesOutsideIn : Environment → Fault → HirFunction → Type 0
NamesOutsideIn env fault function =
    Any (IsOutside (lengths env (length function.instructions)) fault) (function_names function)

-- the fault names a number of the environment outside its functions, which is outside its table
abbrev pub NamesOutsideInEnvironment : Environment → Fault → Type 0
NamesOutsideInEnvironment env fault = Any (IsOutside (lengths env 0) fault) (environment_names env)

-- the fault names a number of the graph, of a function of the table, or of the environment, which is outside its table
abbrev pub NamesOutside : HirFunction → Environment → Fault → Type 0
NamesOutside hir env fault =
    NamesOutsideIn env fault hir ⊎ (Any (NamesOutsideIn env fault) env.functions ⊎ NamesOutsideInEnvironment env fault)
