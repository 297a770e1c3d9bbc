-- The numbers in a graph, each with the table that it indexes.
use Rattle.std.specs.Prelude.{List, [], ◌++◌}
use Rattle.std.specs.List.{flat_map}
pub use Rattle.rc_hir.specs.PartNames.{Name, parameter_names, place_names, row_name, under_key}
use Rattle.rc_hir.specs.PartNames.{names_if, scope_name}
use Rattle.rc_hir.specs.ValueNames.{value_names}
use Rattle.rc_hir.specs.Model.{Case, Terminal, Instruction, BasicBlock, HirFunction}
use Rattle.rc_hir.specs.declared.terminal.Terminal.TheVariants as terminals

-- the numbers in a row
abbrev pub instruction_names : Instruction → List Name
instruction_names instruction = place_names instruction.lvalue ++ value_names instruction.value

-- the number in a case
abbrev pub case_names : Case → List Name
case_names c = names_if place_names c.test

-- the numbers in a terminal; a block's number is a key of the graph and indexes no table
abbrev pub terminal_names : Terminal → List Name
terminal_names (terminals.If test consequent alternate fallthrough id span) = place_names test
terminal_names (terminals.Branch test consequent alternate id span) = place_names test
terminal_names (terminals.Throw value id span) = place_names value
terminal_names (terminals.Return value id span) = place_names value
terminal_names (terminals.Switch test cases fallthrough id span) =
    place_names test ++ flat_map case_names cases
terminal_names (terminals.Scope fallthrough block scope id span) = scope_name scope
terminal_names (terminals.PrunedScope fallthrough block scope id span) = scope_name scope
terminal_names (terminals.Try block handler_binding handler fallthrough id span) =
    names_if place_names handler_binding
terminal_names _ = []

-- the numbers in a block
abbrev pub block_names : BasicBlock → List Name
block_names block = flat_map row_name block.instructions ++ terminal_names block.terminal

-- the numbers in a function; its rows count, also those that no block names
abbrev pub function_names : HirFunction → List Name
function_names function =
    flat_map parameter_names function.params
    ++ (flat_map place_names function.context
    ++ (flat_map (under_key block_names) function.body.blocks
    ++ flat_map instruction_names function.instructions))
