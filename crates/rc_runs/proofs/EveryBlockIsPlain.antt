-- Each tree of the program is the tree of a plain one.
--
-- By induction over the tree, where each part comes with a plain part whose tree it is.
use Rattle.std.proofs.Common.{◌≡◌, List, [], ◌∷◌, Option, Some, None, map, option_map, refl, sym, ap, ◌∙◌, subst}
use Rattle.rc_hir.specs.Model.{Place}
use Rattle.rc_tree.specs.Unrolled.{UnrolledStatement, UnrolledTerminal}
use Rattle.rc_tree.specs.Model.{ReactiveInstruction, ReactiveScopeBlock, PrunedReactiveScopeBlock}
use Rattle.rc_tree.specs.Model.{ReactiveTerminalStatement}
use Rattle.rc_tree.specs.declared.value.ReactiveValue.{ReactiveValue, ReactiveValue-F, roll-ReactiveValue}
use Rattle.rc_tree.specs.declared.value.ReactiveValue.TheVariants as reactive_values
use Rattle.rc_tree.specs.declared.value.ReactiveValue.TheOpen as value_layers
use Rattle.rc_tree.specs.declared.value.ReactiveValue.TheFolds.{map-ReactiveValue, ind-ReactiveValue}
use Rattle.rc_tree.specs.declared.statement.ReactiveBlock.{ReactiveBlock, roll-ReactiveBlock}
use Rattle.rc_tree.specs.declared.statement.ReactiveStatement.{ReactiveStatement, roll-ReactiveStatement}
use Rattle.rc_tree.specs.declared.statement.ReactiveStatement.TheVariants as reactive
use Rattle.rc_tree.specs.declared.statement.ReactiveStatement.TheOpen as layers
use Rattle.rc_tree.specs.declared.statement.ReactiveStatement.TheShapes as shapes
use Rattle.rc_tree.specs.declared.statement.ReactiveStatement.TheOpen.{ReactiveStatement-F, ReactiveTerminal-F}
use Rattle.rc_tree.specs.declared.statement.ReactiveStatement.TheFolds.{map-ReactiveStatement, map-ReactiveTerminal}
use Rattle.rc_tree.specs.declared.statement.ReactiveStatement.TheFolds.{ind-ReactiveBlock}
use Rattle.rc_tree.specs.declared.terminal.ReactiveTerminal.{ReactiveTerminal, roll-ReactiveTerminal}
use Rattle.rc_tree.specs.declared.terminal.ReactiveTerminal.TheVariants as tree
use Rattle.rc_tree.specs.declared.terminal.ReactiveSwitchCase.{ReactiveSwitchCase, roll-ReactiveSwitchCase}
use Rattle.rc_runs.specs.PlainTree.{Base, Logical, Conditional, Sequence, Optional, NoRows, Row, Nil, Cons}
use Rattle.rc_runs.specs.PlainTree.{RowStatement, TerminalStatement, ScopeStatement, PrunedScopeStatement, Break}
use Rattle.rc_runs.specs.PlainTree.{Continue, Return, Throw, Switch, DoWhile, While, For, ForOf, ForIn, If, Label, Try}
use Rattle.rc_runs.specs.PlainTree.{Alternate, Absent, Present, NoCases, Case}
use Rattle.rc_runs.specs.TreeOf.{value_of, instructions_of, statements_of, statement_of, terminal_of, alternate_of}
use Rattle.rc_runs.specs.TreeOf.{cases_of, block_of}

-- the part is the tree of a plain one
abbrev pub IsPlain : {P X : Type 0} → (P → X) → X → Type 0
IsPlain {P} of_plain x = (plain : P) × (of_plain plain ≡ x)

-- a value and a row, with the plain parts whose trees they are
abbrev PlainValue : Type 0
PlainValue = (x : ReactiveValue) × IsPlain value_of x

abbrev PlainRow : Type 0
PlainRow = (x : ReactiveInstruction) × IsPlain value_of x.value

rows_plain : (rows : List PlainRow) → IsPlain instructions_of (map (λ e. e.0) rows)
rows_plain [] = (NoRows, refl)
rows_plain (x ∷ xs) =
    let rest = rows_plain xs in (
      Row x.0.id x.0.lvalue x.1.0 x.0.span rest.0,
      λ i. record { id = x.0.id; lvalue = x.0.lvalue; value = x.1.1 i; span = x.0.span } ∷ rest.1 i,
    )

value_plain : (y : ReactiveValue-F PlainValue PlainRow) →
    IsPlain value_of (roll-ReactiveValue (map-ReactiveValue PlainValue PlainRow ReactiveValue ReactiveInstruction
    (λ e. e.0) (λ e. e.0) y))
value_plain (value_layers.Instruction x) = (Base x, sym (reactive_values.rolls-Instruction x))
value_plain (value_layers.LogicalExpression operator x y) = (
  Logical operator x.1.0 y.1.0,
  (λ i. reactive_values.LogicalExpression operator (x.1.1 i) (y.1.1 i))
      ∙ sym (reactive_values.rolls-LogicalExpression operator x.0 y.0),
)
value_plain (value_layers.ConditionalExpression x y z) = (
  Conditional x.1.0 y.1.0 z.1.0,
  (λ i. reactive_values.ConditionalExpression (x.1.1 i) (y.1.1 i) (z.1.1 i))
      ∙ sym (reactive_values.rolls-ConditionalExpression x.0 y.0 z.0),
)
value_plain (value_layers.SequenceExpression rows id x) =
    let first = rows_plain rows in (
      Sequence first.0 id x.1.0,
      (λ i. reactive_values.SequenceExpression (first.1 i) id (x.1.1 i))
          ∙ sym (reactive_values.rolls-SequenceExpression (map (λ e. e.0) rows) id x.0),
    )
value_plain (value_layers.OptionalExpression x optional) = (
  Optional x.1.0 optional,
  (λ i. reactive_values.OptionalExpression (x.1.1 i) optional)
      ∙ sym (reactive_values.rolls-OptionalExpression x.0 optional),
)

-- each value of the program is the tree of a plain one
pub every_value_is_plain : (x : ReactiveValue) → IsPlain value_of x
every_value_is_plain =
    ind-ReactiveValue (IsPlain value_of) (λ x. IsPlain value_of x.value)
    (λ x y is. subst (λ z. IsPlain value_of (roll-ReactiveValue z)) is (value_plain y))
    (λ x y is. subst (λ z. IsPlain value_of z.value) is y.value.1)

option_value_plain : (x : Option ReactiveValue) → IsPlain (option_map value_of) x
option_value_plain None = (None, refl)
option_value_plain (Some x) = let inner = every_value_is_plain x in (Some inner.0, ap Some inner.1)

-- a block, a case and the other parts of the tree, each with the plain part whose tree it is
abbrev PlainBlock : Type 0
PlainBlock = (x : ReactiveBlock) × IsPlain block_of x

abbrev case_of : Option Place × Alternate → ReactiveSwitchCase
case_of c = roll-ReactiveSwitchCase (record { test = c.0; block = alternate_of c.1 })

abbrev PlainCase : Type 0
PlainCase = (x : ReactiveSwitchCase) × IsPlain case_of x

abbrev PlainStatement : Type 0
PlainStatement = (x : ReactiveStatement) × IsPlain statement_of x

abbrev PlainTerminal : Type 0
PlainTerminal = (x : ReactiveTerminal) × IsPlain terminal_of x

abbrev PlainScope : Type 0
PlainScope = (x : ReactiveScopeBlock) × IsPlain block_of x.instructions

abbrev PlainPrunedScope : Type 0
PlainPrunedScope = (x : PrunedReactiveScopeBlock) × IsPlain block_of x.instructions

abbrev PlainLabeled : Type 0
PlainLabeled = (x : ReactiveTerminalStatement) × IsPlain terminal_of x.terminal

statements_plain : (xs : List PlainStatement) → IsPlain statements_of (map (λ e. e.0) xs)
statements_plain [] = (Nil, refl)
statements_plain (x ∷ xs) = let rest = statements_plain xs in (Cons x.1.0 rest.0, λ i. x.1.1 i ∷ rest.1 i)

cases_plain : (xs : List PlainCase) → IsPlain cases_of (map (λ e. e.0) xs)
cases_plain [] = (NoCases, refl)
cases_plain (x ∷ xs) = let rest = cases_plain xs in (Case x.1.0.0 x.1.0.1 rest.0, λ i. x.1.1 i ∷ rest.1 i)

-- an optional block, without its plain part
abbrev bare_if : Option PlainBlock → Option ReactiveBlock
bare_if = shapes.former-ReactiveTerminal-If-2.map PlainBlock ReactiveBlock (λ e. e.0)

alternate_plain : (x : Option PlainBlock) → IsPlain alternate_of (bare_if x)
alternate_plain None = (Absent, refl)
alternate_plain (Some x) = (Present x.1.0, ap Some x.1.1)

-- forms of statements and terminals, where each part is plain
abbrev PlainStatementLayer : Type 0
PlainStatementLayer =
    ReactiveStatement-F PlainStatement PlainTerminal PlainPrunedScope PlainScope PlainBlock PlainCase PlainLabeled

abbrev PlainTerminalLayer : Type 0
PlainTerminalLayer = ReactiveTerminal-F PlainStatement PlainTerminal PlainPrunedScope PlainScope PlainBlock PlainCase
    PlainLabeled

-- the same forms, without the plain parts
abbrev bare_statement : PlainStatementLayer → UnrolledStatement
bare_statement = map-ReactiveStatement PlainStatement PlainTerminal PlainPrunedScope PlainScope PlainBlock PlainCase
    PlainLabeled
    ReactiveStatement ReactiveTerminal PrunedReactiveScopeBlock ReactiveScopeBlock ReactiveBlock ReactiveSwitchCase
    ReactiveTerminalStatement
    (λ e. e.0) (λ e. e.0) (λ e. e.0) (λ e. e.0) (λ e. e.0) (λ e. e.0) (λ e. e.0)

abbrev bare_terminal : PlainTerminalLayer → UnrolledTerminal
bare_terminal = map-ReactiveTerminal PlainStatement PlainTerminal PlainPrunedScope PlainScope PlainBlock PlainCase
    PlainLabeled
    ReactiveStatement ReactiveTerminal PrunedReactiveScopeBlock ReactiveScopeBlock ReactiveBlock ReactiveSwitchCase
    ReactiveTerminalStatement
    (λ e. e.0) (λ e. e.0) (λ e. e.0) (λ e. e.0) (λ e. e.0) (λ e. e.0) (λ e. e.0)

statement_plain : (y : PlainStatementLayer) →
    IsPlain statement_of (roll-ReactiveStatement (bare_statement y))
statement_plain (layers.Instruction x) =
    let value = every_value_is_plain x.value in (
      RowStatement x.id x.lvalue value.0 x.span,
      (λ i. reactive.Instruction (record { id = x.id; lvalue = x.lvalue; value = value.1 i; span = x.span }))
          ∙ sym (reactive.rolls-Instruction x),
    )
statement_plain (layers.Terminal x) = (
  TerminalStatement x.1.0 x.0.label,
  (λ i. reactive.Terminal (record { terminal = x.1.1 i; label = x.0.label }))
      ∙ sym (reactive.rolls-Terminal x.0),
)
statement_plain (layers.Scope x) = (
  ScopeStatement x.0.scope x.1.0,
  (λ i. reactive.Scope (record { scope = x.0.scope; instructions = x.1.1 i }))
      ∙ sym (reactive.rolls-Scope x.0),
)
statement_plain (layers.PrunedScope x) = (
  PrunedScopeStatement x.0.scope x.1.0,
  (λ i. reactive.PrunedScope (record { scope = x.0.scope; instructions = x.1.1 i }))
      ∙ sym (reactive.rolls-PrunedScope x.0),
)

terminal_plain : (y : PlainTerminalLayer) →
    IsPlain terminal_of (roll-ReactiveTerminal (bare_terminal y))
terminal_plain (layers.Break target kind id) = (Break target kind id, sym (tree.rolls-Break target kind id))
terminal_plain (layers.Continue target kind id) =
    (Continue target kind id, sym (tree.rolls-Continue target kind id))
terminal_plain (layers.Return value id) = (Return value id, sym (tree.rolls-Return value id))
terminal_plain (layers.Throw value id) = (Throw value id, sym (tree.rolls-Throw value id))
terminal_plain (layers.Switch test cases id) =
    let inner = cases_plain cases in (
      Switch test inner.0 id,
      (λ i. tree.Switch test (inner.1 i) id)
          ∙ sym (tree.rolls-Switch test (map (λ e. e.0) cases) id),
    )
terminal_plain (layers.DoWhile body test id) =
    let value = every_value_is_plain test in (
      DoWhile body.1.0 value.0 id,
      (λ i. tree.DoWhile (body.1.1 i) (value.1 i) id)
          ∙ sym (tree.rolls-DoWhile body.0 test id),
    )
terminal_plain (layers.While test body id) =
    let value = every_value_is_plain test in (
      While value.0 body.1.0 id,
      (λ i. tree.While (value.1 i) (body.1.1 i) id)
          ∙ sym (tree.rolls-While test body.0 id),
    )
terminal_plain (layers.For init test update body id) =
    let first = every_value_is_plain init in
    let value = every_value_is_plain test in
    let last = option_value_plain update in (
      For first.0 value.0 last.0 body.1.0 id,
      (λ i. tree.For (first.1 i) (value.1 i) (last.1 i) (body.1.1 i) id)
          ∙ sym (tree.rolls-For init test update body.0 id),
    )
terminal_plain (layers.ForOf init test body span id) =
    let first = every_value_is_plain init in
    let value = every_value_is_plain test in (
      ForOf first.0 value.0 body.1.0 span id,
      (λ i. tree.ForOf (first.1 i) (value.1 i) (body.1.1 i) span id)
          ∙ sym (tree.rolls-ForOf init test body.0 span id),
    )
terminal_plain (layers.ForIn init body span id) =
    let first = every_value_is_plain init in (
      ForIn first.0 body.1.0 span id,
      (λ i. tree.ForIn (first.1 i) (body.1.1 i) span id)
          ∙ sym (tree.rolls-ForIn init body.0 span id),
    )
terminal_plain (layers.If test consequent alternate id) =
    let other = alternate_plain alternate in (
      If test consequent.1.0 other.0 id,
      (λ i. tree.If test (consequent.1.1 i) (other.1 i) id)
          ∙ sym (tree.rolls-If test consequent.0 (bare_if alternate) id),
    )
terminal_plain (layers.Label body id) =
    (Label body.1.0 id, (λ i. tree.Label (body.1.1 i) id) ∙ sym (tree.rolls-Label body.0 id))
terminal_plain (layers.Try body binding handler id) = (
  Try body.1.0 binding handler.1.0 id,
  (λ i. tree.Try (body.1.1 i) binding (handler.1.1 i) id)
      ∙ sym (tree.rolls-Try body.0 binding handler.0 id),
)

case_plain : (test : Option Place) (x : Option PlainBlock) →
    IsPlain case_of (roll-ReactiveSwitchCase (record { test = test; block = bare_if x }))
case_plain test x =
    let inner = alternate_plain x in
    ((test, inner.0), λ i. roll-ReactiveSwitchCase (record { test = test; block = inner.1 i }))

-- each block of the program is the tree of plain statements
pub every_block_is_plain : (x : ReactiveBlock) → IsPlain block_of x
every_block_is_plain =
    ind-ReactiveBlock (IsPlain statement_of) (IsPlain terminal_of) (λ x. IsPlain block_of x.instructions)
    (λ x. IsPlain block_of x.instructions)
    (IsPlain block_of) (IsPlain case_of) (λ x. IsPlain terminal_of x.terminal)
    (λ x y is. subst (λ z. IsPlain statement_of (roll-ReactiveStatement z)) is (statement_plain y))
    (λ x y is. subst (λ z. IsPlain terminal_of (roll-ReactiveTerminal z)) is (terminal_plain y))
    (λ x y is. subst (λ z. IsPlain block_of z.instructions) is y.instructions.1)
    (λ x y is. subst (λ z. IsPlain block_of z.instructions) is y.instructions.1)
    (λ x y is. let inner = statements_plain y.statements in subst (λ z. IsPlain block_of (roll-ReactiveBlock z)) is
    (inner.0, λ i. record { statements = inner.1 i }))
    (λ x y is. subst (λ z. IsPlain case_of (roll-ReactiveSwitchCase z)) is (case_plain y.test y.block))
    (λ x y is. subst (λ z. IsPlain terminal_of z.terminal) is y.terminal.1)
