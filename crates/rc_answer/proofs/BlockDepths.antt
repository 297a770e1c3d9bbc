-- The blocks inside of a level are less deep than the level.
use Rattle.std.proofs.Common.{◌≤◌, ◌<◌, ℕ, List, [], ◌∷◌, Option, None, Some, arith}
use denote.Hole.Carrier.{Values}
use denote.Param.Weighed.{most}
use Rattle.rc_tree.specs.Model.{ReactiveBlock, ReactiveStatement, ReactiveSwitchCase}
use Rattle.rc_tree.specs.Unrolled.{UnrolledStatement, UnrolledTerminal}
use Rattle.rc_tree.specs.declared.scope.PrunedReactiveScopeBlock.{size_is-PrunedReactiveScopeBlock}
use Rattle.rc_tree.specs.declared.scope.ReactiveScopeBlock.{size_is-ReactiveScopeBlock}
use Rattle.rc_tree.specs.declared.statement.ReactiveBlock.{size-ReactiveBlock, size_is-ReactiveBlock}
use Rattle.rc_tree.specs.declared.statement.ReactiveStatement.{out-ReactiveStatement, size-ReactiveStatement}
use Rattle.rc_tree.specs.declared.statement.ReactiveStatement.{size_is-ReactiveStatement}
use Rattle.rc_tree.specs.declared.statement.ReactiveStatement.TheBlock as tree
use Rattle.rc_tree.specs.declared.statement.ReactiveStatement.TheOpen as layer
use Rattle.rc_tree.specs.declared.statement.ReactiveStatement.TheShapes as shapes
use Rattle.rc_tree.specs.declared.terminal.ReactiveSwitchCase.{size-ReactiveSwitchCase, size_is-ReactiveSwitchCase}
use Rattle.rc_tree.specs.declared.terminal.ReactiveTerminal.{out-ReactiveTerminal, size_is-ReactiveTerminal}
use Rattle.rc_tree.specs.declared.terminal.ReactiveTerminalStatement.{size_is-ReactiveTerminalStatement}
use Rattle.rc_flat.specs.Blocks.{block_if, block_of_case, blocks_in, blocks_in_cases, blocks_in_statement}
use Rattle.rc_flat.specs.Blocks.{blocks_in_terminal}
use Rattle.rc_answer.proofs.MostLemmas.{most_append}
use Rattle.rc_answer.specs.inside.Levels.{blocks_inside}

abbrev weigh_terminal : UnrolledTerminal → ℕ
weigh_terminal l = tree.weighs-ReactiveTerminal.weight (Values tree.the_members tree.the_sigs tree.the_carrier)
    tree.the_depth l

abbrev weigh_statement : UnrolledStatement → ℕ
weigh_statement l = tree.weighs-ReactiveStatement.weight (Values tree.the_members tree.the_sigs tree.the_carrier)
    tree.the_depth l

abbrev pub deepest : List ReactiveBlock → ℕ
deepest = most size-ReactiveBlock

if_depth : (o : Option ReactiveBlock)
    → deepest (block_if o) ≤ shapes.weighed-ReactiveTerminal-If-2.weight ReactiveBlock size-ReactiveBlock o
if_depth None = omega arith
if_depth (Some x) = omega arith

cases_depth : (cases : List ReactiveSwitchCase) → deepest (blocks_in_cases cases) ≤ most size-ReactiveSwitchCase cases
cases_depth [] = omega arith
cases_depth (case ∷ cases) =
    omega (
      arith,
      cases_depth cases,
      most_append size-ReactiveBlock (block_if (block_of_case case)) (blocks_in_cases cases),
      if_depth (block_of_case case),
      size_is-ReactiveSwitchCase case,
    )

terminal_depth : (l : UnrolledTerminal) → deepest (blocks_in_terminal l) ≤ weigh_terminal l
terminal_depth (layer.Break target kind id) = omega arith
terminal_depth (layer.Continue target kind id) = omega arith
terminal_depth (layer.Return place id) = omega arith
terminal_depth (layer.Throw place id) = omega arith
terminal_depth (layer.Switch test cases id) = omega (arith, cases_depth cases)
terminal_depth (layer.DoWhile body test id) = omega arith
terminal_depth (layer.While test body id) = omega arith
terminal_depth (layer.For init test update body id) = omega arith
terminal_depth (layer.ForOf init test body span id) = omega arith
terminal_depth (layer.ForIn init body span id) = omega arith
terminal_depth (layer.If test consequent alternate id) =
    omega (arith, if_depth alternate, most_append size-ReactiveBlock (block_if alternate) (consequent ∷ []))
terminal_depth (layer.Label body id) = omega arith
terminal_depth (layer.Try block binding handler id) = omega arith

statement_depth : (l : UnrolledStatement) → deepest (blocks_in_statement l) ≤ weigh_statement l
statement_depth (layer.Instruction row) = omega arith
statement_depth (layer.Terminal x) =
    omega (
      arith,
      terminal_depth (out-ReactiveTerminal x.terminal),
      size_is-ReactiveTerminalStatement x,
      size_is-ReactiveTerminal x.terminal,
    )
statement_depth (layer.Scope x) = omega (arith, size_is-ReactiveScopeBlock x)
statement_depth (layer.PrunedScope x) = omega (arith, size_is-PrunedReactiveScopeBlock x)

pub statements_depth : (xs : List ReactiveStatement) → deepest (blocks_in xs) ≤ most size-ReactiveStatement xs
statements_depth [] = omega arith
statements_depth (x ∷ xs) =
    omega (
      arith,
      statements_depth xs,
      most_append size-ReactiveBlock (blocks_in_statement (out-ReactiveStatement x)) (blocks_in xs),
      statement_depth (out-ReactiveStatement x),
      size_is-ReactiveStatement x,
    )

-- what is inside of a block is less deep than the block
pub block_depth : (x : ReactiveBlock) → deepest (blocks_in x.statements) < size-ReactiveBlock x
block_depth x = omega (arith, statements_depth x.statements, size_is-ReactiveBlock x)

-- what is inside of a level is less deep than the level, if it has a block
pub level_depth : (x : ReactiveBlock) (xs : List ReactiveBlock) → deepest (blocks_inside (x ∷ xs)) < deepest (x ∷ xs)
level_depth x [] = omega (arith, block_depth x, most_append size-ReactiveBlock (blocks_in x.statements) [])
level_depth x (y ∷ ys) =
    omega (
      arith,
      block_depth x,
      level_depth y ys,
      most_append size-ReactiveBlock (blocks_in x.statements) (blocks_inside (y ∷ ys)),
    )
