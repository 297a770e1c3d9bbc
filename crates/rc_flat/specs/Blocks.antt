-- Blocks as a table. A block is an entry of the table and has its number there; the body has number 0.
--
-- The blocks of a list get their entries one after the other; the blocks inside of one come after the rest of the list.
-- So the numbers rise by one from left to right in the text of the table.
use Rattle.std.specs.Prelude.{ℕ, ◌+◌, List, [], ◌∷◌, ◌++◌, Option, Some, None, length}
use Rattle.rc_tree.specs.Model.{ReactiveBlock, ReactiveStatement, ReactiveSwitchCase}
use Rattle.rc_tree.specs.Model.{ReactiveValue}
use Rattle.rc_tree.specs.Unrolled.{UnrolledStatement, UnrolledTerminal}
use Rattle.rc_tree.specs.declared.statement.ReactiveStatement.{out-ReactiveStatement}
use Rattle.rc_tree.specs.declared.terminal.ReactiveTerminal.{out-ReactiveTerminal}
use Rattle.rc_tree.specs.declared.terminal.ReactiveSwitchCase.{out-ReactiveSwitchCase}
use Rattle.rc_tree.specs.declared.statement.ReactiveStatement.TheOpen as layer
use Rattle.rc_flat.specs.Model.{FlatStatement, FlatSwitchCase, FlatTerminal, FlatValue}
use Rattle.rc_flat.specs.Values.{after_value, flat_row, flat_value, nested}
use Rattle.rc_flat.specs.declared.statement.FlatStatement.TheVariants as flat
use Rattle.rc_flat.specs.declared.terminal.FlatTerminal.TheVariants as terminals

-- the next number of a block, and that of a nested value
pub record Next : Type 0 where
  pub block : ℕ
  pub value : ℕ

-- ---- the blocks inside of parts, in the order of the text

abbrev pub block_if : Option ReactiveBlock → List ReactiveBlock
block_if None = []
block_if (Some block) = block ∷ []

abbrev pub block_of_case : ReactiveSwitchCase → Option ReactiveBlock
block_of_case case = (out-ReactiveSwitchCase case).block

abbrev pub blocks_in_cases : List ReactiveSwitchCase → List ReactiveBlock
blocks_in_cases [] = []
blocks_in_cases (case ∷ cases) = block_if (block_of_case case) ++ blocks_in_cases cases

abbrev pub blocks_in_terminal : UnrolledTerminal → List ReactiveBlock
blocks_in_terminal (layer.Switch test cases id) = blocks_in_cases cases
blocks_in_terminal (layer.DoWhile body test id) = body ∷ []
blocks_in_terminal (layer.While test body id) = body ∷ []
blocks_in_terminal (layer.For init test update body id) = body ∷ []
blocks_in_terminal (layer.ForOf init test body span id) = body ∷ []
blocks_in_terminal (layer.ForIn init body span id) = body ∷ []
blocks_in_terminal (layer.If test consequent alternate id) = block_if alternate ++ consequent ∷ []
blocks_in_terminal (layer.Label body id) = body ∷ []
blocks_in_terminal (layer.Try block binding handler id) = block ∷ handler ∷ []
blocks_in_terminal _ = []

abbrev pub blocks_in_statement : UnrolledStatement → List ReactiveBlock
blocks_in_statement (layer.Instruction row) = []
blocks_in_statement (layer.Terminal x) = blocks_in_terminal (out-ReactiveTerminal x.terminal)
blocks_in_statement (layer.Scope x) = x.instructions ∷ []
blocks_in_statement (layer.PrunedScope x) = x.instructions ∷ []

abbrev pub blocks_in : List ReactiveStatement → List ReactiveBlock
blocks_in [] = []
blocks_in (x ∷ xs) = blocks_in_statement (out-ReactiveStatement x) ++ blocks_in xs

-- ---- the nested values of parts, in the order of the text

abbrev pub nested_if : Option ReactiveValue → List ReactiveValue
nested_if None = []
nested_if (Some x) = nested x

abbrev pub values_in_terminal : UnrolledTerminal → List ReactiveValue
values_in_terminal (layer.DoWhile body test id) = nested test
values_in_terminal (layer.While test body id) = nested test
values_in_terminal (layer.For init test update body id) = nested init ++ (nested test ++ nested_if update)
values_in_terminal (layer.ForOf init test body span id) = nested init ++ nested test
values_in_terminal (layer.ForIn init body span id) = nested init
values_in_terminal _ = []

abbrev pub values_in_statement : UnrolledStatement → List ReactiveValue
values_in_statement (layer.Instruction row) = nested row.value
values_in_statement (layer.Terminal x) = values_in_terminal (out-ReactiveTerminal x.terminal)
values_in_statement (layer.Scope x) = []
values_in_statement (layer.PrunedScope x) = []

abbrev pub values_in : List ReactiveStatement → List ReactiveValue
values_in [] = []
values_in (x ∷ xs) = values_in_statement (out-ReactiveStatement x) ++ values_in xs

-- ---- parts with numbers in the places of blocks and of nested values

abbrev pub number_if : ℕ → Option ReactiveBlock → Option ℕ
number_if next None = None
number_if next (Some block) = Some next

abbrev pub flat_value_if : ℕ → Option ReactiveValue → Option FlatValue
flat_value_if next None = None
flat_value_if next (Some x) = Some (flat_value next x)

abbrev pub flat_cases : ℕ → List ReactiveSwitchCase → List FlatSwitchCase
flat_cases next [] = []
flat_cases next (case ∷ cases) =
    record { test = (out-ReactiveSwitchCase case).test; block = number_if next (block_of_case case) }
    ∷ flat_cases (next + length (block_if (block_of_case case))) cases

abbrev pub flat_terminal : Next → UnrolledTerminal → FlatTerminal
flat_terminal next (layer.Break target kind id) = terminals.Break target kind id
flat_terminal next (layer.Continue target kind id) = terminals.Continue target kind id
flat_terminal next (layer.Return place id) = terminals.Return place id
flat_terminal next (layer.Throw place id) = terminals.Throw place id
flat_terminal next (layer.Switch test cases id) = terminals.Switch test (flat_cases next.block cases) id
flat_terminal next (layer.DoWhile body test id) = terminals.DoWhile next.block (flat_value next.value test) id
flat_terminal next (layer.While test body id) = terminals.While (flat_value next.value test) next.block id
flat_terminal next (layer.For init test update body id) =
    terminals.For (flat_value next.value init) (flat_value (after_value next.value init) test)
    (flat_value_if (after_value (after_value next.value init) test) update) next.block id
flat_terminal next (layer.ForOf init test body span id) =
    terminals.ForOf (flat_value next.value init) (flat_value (after_value next.value init) test) next.block span id
flat_terminal next (layer.ForIn init body span id) = terminals.ForIn (flat_value next.value init) next.block span id
flat_terminal next (layer.If test consequent alternate id) =
    terminals.If test (next.block + length (block_if alternate)) (number_if next.block alternate) id
flat_terminal next (layer.Label body id) = terminals.Label next.block id
flat_terminal next (layer.Try block binding handler id) = terminals.Try next.block binding (next.block + 1) id

abbrev pub flat_statement : Next → UnrolledStatement → FlatStatement
flat_statement next (layer.Instruction row) = flat.Instruction (flat_row next.value row)
flat_statement next (layer.Terminal x) =
    flat.Terminal (record { terminal = flat_terminal next (out-ReactiveTerminal x.terminal); label = x.label })
flat_statement next (layer.Scope x) = flat.Scope (record { scope = x.scope; instructions = next.block })
flat_statement next (layer.PrunedScope x) = flat.PrunedScope (record { scope = x.scope; instructions = next.block })

-- the next numbers after so many blocks and nested values
abbrev pub after : Next → List ReactiveBlock → List ReactiveValue → Next
after next blocks values = record { block = next.block + length blocks; value = next.value + length values }

abbrev pub after_statement : Next → UnrolledStatement → Next
after_statement next x = after next (blocks_in_statement x) (values_in_statement x)

abbrev pub flat_statements : Next → List ReactiveStatement → List FlatStatement
flat_statements next [] = []
flat_statements next (x ∷ xs) =
    flat_statement next (out-ReactiveStatement x)
    ∷ flat_statements (after_statement next (out-ReactiveStatement x)) xs

abbrev pub after_block : Next → ReactiveBlock → Next
after_block next block = after next (blocks_in block.statements) (values_in block.statements)

-- ---- tables

-- the blocks have these entries, and these are the nested values of their rows and terminals, if `next` has the numbers
-- of the first block and of the first nested value inside of them
pub data ListsBlocks : Next → List ReactiveBlock → List (List FlatStatement) → List ReactiveValue → Type 0 where
  no_block : {next : Next} → ListsBlocks next [] [] []
  block : {next : Next} {x : ReactiveBlock} {later : List ReactiveBlock} {entries : List (List FlatStatement)}
      {values : List ReactiveValue}
      → ListsBlocks (after_block next x) (later ++ blocks_in x.statements) entries values
      → ListsBlocks next (x ∷ later) (flat_statements next x.statements ∷ entries) (values_in x.statements ++ values)
