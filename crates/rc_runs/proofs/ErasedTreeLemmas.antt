-- Plain trees without their scopes: the program's trees of them are the program's trees without scopes.
use Rattle.std.proofs.Common.{◌≡◌, [], ◌∷◌, ◌++◌, Option, None, Some, option_map, map, refl, sym, ap, ◌∙◌}
use Rattle.rc_tree.specs.declared.statement.ReactiveStatement.TheVariants as reactive
use Rattle.rc_tree.specs.declared.terminal.ReactiveSwitchCase.{roll-ReactiveSwitchCase}
use Rattle.rc_tree.specs.declared.terminal.ReactiveTerminal.TheVariants as tree
use Rattle.rc_tree.specs.declared.value.ReactiveValue.TheVariants as reactive_values
use Rattle.rc_runs.specs.PlainTree.{Value, Base, Logical, Conditional, Sequence, Optional, Rows, NoRows, Row}
use Rattle.rc_runs.specs.PlainTree.{Statements, Nil, Cons, Statement, RowStatement, TerminalStatement, ScopeStatement}
use Rattle.rc_runs.specs.PlainTree.{PrunedScopeStatement, TreeTerminal, Break, Continue, Return, Throw, Switch, DoWhile}
use Rattle.rc_runs.specs.PlainTree.{While, For, ForOf, ForIn, If, Label, Try, Alternate, Absent, Present, Cases}
use Rattle.rc_runs.specs.PlainTree.{NoCases, Case}
use Rattle.rc_runs.specs.TreeOf.{value_of, instructions_of, statements_of, statement_of, terminal_of, alternate_of}
use Rattle.rc_runs.specs.TreeOf.{cases_of, block_of}
use Rattle.rc_runs.specs.Erase.{without_flag, erased_value, erased_row, erased_block, erased_statement, erased_case}
use Rattle.rc_runs.specs.Erase.{erased_terminal, erased_statements}
use Rattle.rc_runs.proofs.PlainLists.{alone, labeled, append, statements_of-append}
use Rattle.rc_runs.proofs.ErasedPartLemmas.{erased-Instruction, erased-LogicalExpression, erased-ConditionalExpression}
use Rattle.rc_runs.proofs.ErasedPartLemmas.{erased-SequenceExpression, erased-OptionalExpression, erased-row}
use Rattle.rc_runs.proofs.ErasedPartLemmas.{erased-block, erased-row_statement, erased-labeled, erased-scope}
use Rattle.rc_runs.proofs.ErasedPartLemmas.{erased-pruned_scope, erased-case, erased-Break, erased-Continue}
use Rattle.rc_runs.proofs.ErasedPartLemmas.{erased-Return, erased-Throw, erased-Switch, erased-DoWhile, erased-While}
use Rattle.rc_runs.proofs.ErasedPartLemmas.{erased-For, erased-ForOf, erased-ForIn, erased-If, erased-Label, erased-Try}

-- values and rows without the flags of their instructions
abbrev mutual
  pub plain_value : Value → Value
  plain_value (Base value) = Base (without_flag value)
  plain_value (Logical operator left right) = Logical operator (plain_value left) (plain_value right)
  plain_value (Conditional test consequent alternate) =
      Conditional (plain_value test) (plain_value consequent) (plain_value alternate)
  plain_value (Sequence rows id value) = Sequence (plain_rows rows) id (plain_value value)
  plain_value (Optional value optional) = Optional (plain_value value) optional

  pub plain_rows : Rows → Rows
  plain_rows NoRows = NoRows
  plain_rows (Row id target value span rest) = Row id target (plain_value value) span (plain_rows rest)

-- plain trees without their scopes
abbrev mutual
  pub erased_plain : Statements → Statements
  erased_plain Nil = Nil
  erased_plain (Cons statement rest) = append (plain_statement statement) (erased_plain rest)

  pub plain_statement : Statement → Statements
  plain_statement (RowStatement id target value span) = alone (RowStatement id target (plain_value value) span)
  plain_statement (TerminalStatement terminal label) = labeled (plain_terminal terminal) label
  plain_statement (ScopeStatement scope body) = erased_plain body
  plain_statement (PrunedScopeStatement scope body) = erased_plain body

  pub plain_terminal : TreeTerminal → TreeTerminal
  plain_terminal (Break target kind id) = Break target kind id
  plain_terminal (Continue target kind id) = Continue target kind id
  plain_terminal (Return value id) = Return value id
  plain_terminal (Throw value id) = Throw value id
  plain_terminal (Switch test cases id) = Switch test (plain_cases cases) id
  plain_terminal (DoWhile body test id) = DoWhile (erased_plain body) (plain_value test) id
  plain_terminal (While test body id) = While (plain_value test) (erased_plain body) id
  plain_terminal (For init test update body id) =
      For (plain_value init) (plain_value test) (option_map plain_value update) (erased_plain body) id
  plain_terminal (ForOf init test body span id) =
      ForOf (plain_value init) (plain_value test) (erased_plain body) span id
  plain_terminal (ForIn init body span id) = ForIn (plain_value init) (erased_plain body) span id
  plain_terminal (If test consequent alternate id) = If test (erased_plain consequent) (plain_alternate alternate) id
  plain_terminal (Label body id) = Label (erased_plain body) id
  plain_terminal (Try body binding handler id) = Try (erased_plain body) binding (erased_plain handler) id

  pub plain_alternate : Alternate → Alternate
  plain_alternate Absent = Absent
  plain_alternate (Present body) = Present (erased_plain body)

  pub plain_cases : Cases → Cases
  plain_cases NoCases = NoCases
  plain_cases (Case test body rest) = Case test (plain_alternate body) (plain_cases rest)

-- the tree of an erased plain tree is the erased tree of the plain tree
mutual
  value-erased : (value : Value) → value_of (plain_value value) ≡ erased_value (value_of value)
  value-erased (Base value) = sym (erased-Instruction value)
  value-erased (Logical operator left right) =
      (λ i. reactive_values.LogicalExpression operator (value-erased left i) (value-erased right i))
      ∙ sym (erased-LogicalExpression operator (value_of left) (value_of right))
  value-erased (Conditional test consequent alternate) =
      (λ i. reactive_values.ConditionalExpression (value-erased test i) (value-erased consequent i)
      (value-erased alternate i))
      ∙ sym (erased-ConditionalExpression (value_of test) (value_of consequent) (value_of alternate))
  value-erased (Sequence rows id value) =
      (λ i. reactive_values.SequenceExpression (rows-erased rows i) id (value-erased value i))
      ∙ sym (erased-SequenceExpression (instructions_of rows) id (value_of value))
  value-erased (Optional value optional) =
      (λ i. reactive_values.OptionalExpression (value-erased value i) optional)
      ∙ sym (erased-OptionalExpression (value_of value) optional)

  rows-erased : (rows : Rows) → instructions_of (plain_rows rows) ≡ map erased_row (instructions_of rows)
  rows-erased NoRows = refl
  rows-erased (Row id target value span rest) =
      (λ i. record { id = id; lvalue = target; value = value-erased value i; span = span } ∷ rows-erased rest i)
      ∙ ap (λ row. row ∷ map erased_row (instructions_of rest)) (sym
      (erased-row (record { id = id; lvalue = target; value = value_of value; span = span })))

option_value-erased : (value : Option Value) → option_map value_of (option_map plain_value value)
    ≡ option_map erased_value (option_map value_of value)
option_value-erased None = refl
option_value-erased (Some value) = ap Some (value-erased value)

left_block : (body : Statements) → statements_of (erased_plain body) ≡ erased_statements (statements_of body) →
    block_of (erased_plain body) ≡ erased_block (block_of body)
left_block body e = (λ i. record { statements = e i }) ∙ sym (erased-block (block_of body))

mutual
  statements-erased : (statements : Statements) → statements_of (erased_plain statements)
      ≡ erased_statements (statements_of statements)
  statements-erased Nil = refl
  statements-erased (Cons statement rest) =
      statements_of-append (plain_statement statement) (erased_plain rest)
      ∙ (λ i. statement-erased statement i ++ statements-erased rest i)

  statement-erased : (statement : Statement) → statements_of (plain_statement statement)
      ≡ erased_statement (statement_of statement)
  statement-erased (RowStatement id target value span) =
      (λ i. reactive.Instruction (record { id = id; lvalue = target; value = value-erased value i; span = span }) ∷
      [])
      ∙ ap (λ row. reactive.Instruction row ∷ []) (sym (erased-row
      (record { id = id; lvalue = target; value = value_of value; span = span })))
      ∙ sym (erased-row_statement (record { id = id; lvalue = target; value = value_of value; span = span }))
  statement-erased (TerminalStatement terminal label) =
      (λ i. reactive.Terminal (record { terminal = terminal-erased terminal i; label = label }) ∷ [])
      ∙ sym (erased-labeled (record { terminal = terminal_of terminal; label = label }))
  statement-erased (ScopeStatement scope body) =
      statements-erased body ∙ sym (erased-scope (record { scope = scope; instructions = block_of body }))
  statement-erased (PrunedScopeStatement scope body) =
      statements-erased body ∙ sym (erased-pruned_scope (record { scope = scope; instructions = block_of body }))

  terminal-erased : (terminal : TreeTerminal) → terminal_of (plain_terminal terminal)
      ≡ erased_terminal (terminal_of terminal)
  terminal-erased (Break target kind id) = sym (erased-Break target kind id)
  terminal-erased (Continue target kind id) = sym (erased-Continue target kind id)
  terminal-erased (Return value id) = sym (erased-Return value id)
  terminal-erased (Throw value id) = sym (erased-Throw value id)
  terminal-erased (Switch test cases id) =
      (λ i. tree.Switch test (cases-erased cases i) id) ∙ sym (erased-Switch test (cases_of cases) id)
  terminal-erased (DoWhile body test id) =
      (λ i. tree.DoWhile (left_block body (statements-erased body) i) (value-erased test i) id)
      ∙ sym (erased-DoWhile (block_of body) (value_of test) id)
  terminal-erased (While test body id) =
      (λ i. tree.While (value-erased test i) (left_block body (statements-erased body) i) id)
      ∙ sym (erased-While (value_of test) (block_of body) id)
  terminal-erased (For init test update body id) =
      (λ i. tree.For (value-erased init i) (value-erased test i) (option_value-erased update i)
      (left_block body (statements-erased body) i) id)
      ∙ sym (erased-For (value_of init) (value_of test) (option_map value_of update) (block_of body) id)
  terminal-erased (ForOf init test body span id) =
      (λ i. tree.ForOf (value-erased init i) (value-erased test i) (left_block body (statements-erased body) i)
      span id)
      ∙ sym (erased-ForOf (value_of init) (value_of test) (block_of body) span id)
  terminal-erased (ForIn init body span id) =
      (λ i. tree.ForIn (value-erased init i) (left_block body (statements-erased body) i) span id)
      ∙ sym (erased-ForIn (value_of init) (block_of body) span id)
  terminal-erased (If test consequent alternate id) =
      (λ i. tree.If test (left_block consequent (statements-erased consequent) i) (alternate-erased alternate i)
      id)
      ∙ sym (erased-If test (block_of consequent) (alternate_of alternate) id)
  terminal-erased (Label body id) =
      (λ i. tree.Label (left_block body (statements-erased body) i) id) ∙ sym (erased-Label (block_of body) id)
  terminal-erased (Try body binding handler id) =
      (λ i. tree.Try (left_block body (statements-erased body) i) binding
      (left_block handler (statements-erased handler) i) id)
      ∙ sym (erased-Try (block_of body) binding (block_of handler) id)

  alternate-erased : (alternate : Alternate) → alternate_of (plain_alternate alternate)
      ≡ option_map erased_block (alternate_of alternate)
  alternate-erased Absent = refl
  alternate-erased (Present body) = ap Some (left_block body (statements-erased body))

  cases-erased : (cases : Cases) → cases_of (plain_cases cases) ≡ map erased_case (cases_of cases)
  cases-erased NoCases = refl
  cases-erased (Case test body rest) =
      (λ i. roll-ReactiveSwitchCase (record { test = test; block = alternate-erased body i }) ∷ cases-erased rest i)
      ∙ ap (λ case. case ∷ map erased_case (cases_of rest)) (sym (erased-case test (alternate_of body)))

pub block-erased : (body : Statements) → block_of (erased_plain body) ≡ erased_block (block_of body)
block-erased body = left_block body (statements-erased body)
