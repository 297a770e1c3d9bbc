-- The numbers of a tree are in their tables if those of the plain tree that it represents are.
use Rattle.std.proofs.Common.{◌≡◌, List, [], ◌++◌, Option, None, Some, map, option_map, sym, subst}
use Rattle.std.proofs.lemmas.List.Elements.{All-append, All-nil}
use Rattle.rc_names.specs.Numbers.{EvaluationOrder}
use Rattle.rc_names.specs.declared.span.Span.{Span}
use Rattle.rc_hir.specs.PartNames.{Name, names_if, place_names, scope_name}
use Rattle.rc_hir.specs.ValueNames.{value_names}
use Rattle.rc_hir.specs.Model.{Environment, Place}
use Rattle.rc_tree.specs.Collected.{collected_cases, collected_if}
use Rattle.rc_tree.specs.CollectedValues.{collected_value, collected_row, collected_value_if}
use Rattle.rc_tree.specs.Joining.{all_of, lists}
use Rattle.rc_tree.specs.TreeNames.{names_in, names_in_list, names_in_statement, names_in_terminal, names_of_parts}
use Rattle.rc_tree.specs.TreeNames.{names_of_values}
use Rattle.rc_tree.proofs.CollectedLemmas.{collected-row, collected-Base, collected-Logical, collected-Conditional}
use Rattle.rc_tree.proofs.CollectedLemmas.{collected-Sequence, collected-Optional, collected-block}
use Rattle.rc_tree.proofs.CollectedLemmas.{collected-Instruction, collected-Terminal, collected-Scope, collected-case}
use Rattle.rc_tree.proofs.CollectedLemmas.{collected-Break, collected-Continue, collected-Return, collected-Throw}
use Rattle.rc_tree.proofs.CollectedLemmas.{collected-Switch, collected-DoWhile, collected-While, collected-For}
use Rattle.rc_tree.proofs.CollectedLemmas.{collected-ForOf, collected-ForIn, collected-If, collected-Label}
use Rattle.rc_tree.proofs.CollectedLemmas.{collected-PrunedScope, collected-Try}
use Rattle.rc_runs.specs.PlainTree.{Value, Base, Logical, Conditional, Sequence, Optional, Rows, NoRows, Row}
use Rattle.rc_runs.specs.PlainTree.{Statements, Nil, Cons, Statement, RowStatement, TerminalStatement, ScopeStatement}
use Rattle.rc_runs.specs.PlainTree.{PrunedScopeStatement, TreeTerminal, Break, Continue, Return, Throw, Switch, DoWhile}
use Rattle.rc_runs.specs.PlainTree.{While, For, ForOf, ForIn, If, Label, Try, Alternate, Absent, Present, Cases}
use Rattle.rc_runs.specs.PlainTree.{NoCases, Case}
use Rattle.rc_runs.specs.TreeOf.{value_of, instructions_of, statements_of, statement_of, terminal_of, alternate_of}
use Rattle.rc_runs.specs.TreeOf.{cases_of, block_of}
use Rattle.rc_runs.proofs.BlockNames.{Held, InTable}

module _ (env : Environment) where
  -- the numbers of a place that may be absent
  abbrev HeldPlace : Option Place → Type 0
  HeldPlace place = Held env (names_if place_names place)

  -- the numbers of a value and of rows are in their tables
  abbrev mutual
    pub HeldValue : Value → Type 0
    HeldValue (Base value) = Held env (value_names value)
    HeldValue (Logical operator left right) = HeldValue left × HeldValue right
    HeldValue (Conditional test consequent alternate) = HeldValue test × HeldValue consequent × HeldValue alternate
    HeldValue (Sequence rows id value) = HeldRows rows × HeldValue value
    HeldValue (Optional value optional) = HeldValue value

    pub HeldRows : Rows → Type 0
    HeldRows NoRows = Unit {0}
    HeldRows (Row id target value span rest) = HeldPlace target × HeldValue value × HeldRows rest

  abbrev pub HeldOption : Option Value → Type 0
  HeldOption None = Unit {0}
  HeldOption (Some value) = HeldValue value

  -- the numbers of statements and of their parts are in their tables
  abbrev mutual
    pub HeldStatements : Statements → Type 0
    HeldStatements Nil = Unit {0}
    HeldStatements (Cons statement rest) = HeldStatement statement × HeldStatements rest

    pub HeldStatement : Statement → Type 0
    HeldStatement (RowStatement id target value span) = HeldPlace target × HeldValue value
    HeldStatement (TerminalStatement terminal label) = HeldTerminal terminal
    HeldStatement (ScopeStatement scope body) = Held env (scope_name scope) × HeldStatements body
    HeldStatement (PrunedScopeStatement scope body) = Held env (scope_name scope) × HeldStatements body

    HeldTerminal : TreeTerminal → Type 0
    HeldTerminal (Break target kind id) = Unit {0}
    HeldTerminal (Continue target kind id) = Unit {0}
    HeldTerminal (Return value id) = Held env (place_names value)
    HeldTerminal (Throw value id) = Held env (place_names value)
    HeldTerminal (Switch test cases id) = Held env (place_names test) × HeldCases cases
    HeldTerminal (DoWhile body test id) = HeldStatements body × HeldValue test
    HeldTerminal (While test body id) = HeldValue test × HeldStatements body
    HeldTerminal (For init test update body id) =
        HeldValue init × HeldValue test × HeldStatements body × HeldOption update
    HeldTerminal (ForOf init test body span id) = HeldValue init × HeldValue test × HeldStatements body
    HeldTerminal (ForIn init body span id) = HeldValue init × HeldStatements body
    HeldTerminal (If test consequent alternate id) =
        Held env (place_names test) × HeldStatements consequent × HeldAlternate alternate
    HeldTerminal (Label body id) = HeldStatements body
    HeldTerminal (Try body binding handler id) = HeldStatements body × HeldPlace binding × HeldStatements handler

    HeldAlternate : Alternate → Type 0
    HeldAlternate Absent = Unit {0}
    HeldAlternate (Present body) = HeldStatements body

    pub HeldCases : Cases → Type 0
    HeldCases NoCases = Unit {0}
    HeldCases (Case test body rest) = HeldPlace test × HeldAlternate body × HeldCases rest

  -- an equal list of numbers, of one part followed by another
  by_parts : {names : List Name} (first second : List Name) → names ≡ first ++ second → Held env first →
      Held env second → Held env names
  by_parts first second e held later = subst (Held env) (sym e) (All-append (InTable env) first second held later)

  by_same : {names others : List Name} → names ≡ others → Held env others → Held env names
  by_same e held = subst (Held env) (sym e) held

  both : (first second : List Name) → Held env first → Held env second → Held env (first ++ second)
  both = All-append (InTable env)

  none : Held env []
  none = All-nil (InTable env)

  row_held : (id : EvaluationOrder) (target : Option Place) (value : Value) (span : Option Span) → HeldPlace target →
      Held env (collected_value names_of_values (value_of value) id) →
      Held env (collected_row names_of_values
      (record { id = id; lvalue = target; value = value_of value; span = span }))
  row_held id target value span own held =
      by_parts _ _ (collected-row names_of_values
      (record { id = id; lvalue = target; value = value_of value; span = span })) own held

  mutual
    value_held : (value : Value) → HeldValue value → (id : EvaluationOrder) →
        Held env (collected_value names_of_values (value_of value) id)
    value_held (Base value) held id = by_same (collected-Base names_of_values value id) held
    value_held (Logical operator left right) held id =
        by_parts _ _ (collected-Logical names_of_values operator (value_of left) (value_of right) id)
        (value_held left held.0 id) (value_held right held.1 id)
    value_held (Conditional test consequent alternate) held id =
        by_parts _ _
        (collected-Conditional names_of_values (value_of test) (value_of consequent) (value_of alternate) id)
        (value_held test held.0 id) (both _ _ (value_held consequent held.1 id) (value_held alternate held.2 id))
    value_held (Sequence rows own value) held id =
        by_parts _ _ (collected-Sequence names_of_values (instructions_of rows) own (value_of value) id)
        (rows_held rows held.0) (value_held value held.1 own)
    value_held (Optional value optional) held id =
        by_same (collected-Optional names_of_values (value_of value) optional id) (value_held value held id)

    rows_held : (rows : Rows) → HeldRows rows →
        Held env (all_of lists (map (collected_row names_of_values) (instructions_of rows)))
    rows_held NoRows held = none
    rows_held (Row id target value span rest) held =
        both _ _ (row_held id target value span held.0 (value_held value held.1 id)) (rows_held rest held.2)

  option_held : (value : Option Value) → HeldOption value → (id : EvaluationOrder) →
      Held env (collected_value_if names_of_values id (option_map value_of value))
  option_held None held id = none
  option_held (Some value) held id = value_held value held id

  -- a block has the numbers of its statements
  as_block : (body : Statements) → Held env (names_in_list (statements_of body)) → Held env (names_in (block_of body))
  as_block body held = by_same (collected-block names_of_parts (block_of body)) held

  mutual
    statements_held : (statements : Statements) → HeldStatements statements →
        Held env (names_in_list (statements_of statements))
    statements_held Nil held = none
    statements_held (Cons statement rest) held =
        both _ _ (statement_held statement held.0) (statements_held rest held.1)

    statement_held : (statement : Statement) → HeldStatement statement →
        Held env (names_in_statement (statement_of statement))
    statement_held (RowStatement id target value span) held =
        by_same (collected-Instruction names_of_parts
        (record { id = id; lvalue = target; value = value_of value; span = span }))
        (row_held id target value span held.0 (value_held value held.1 id))
    statement_held (TerminalStatement terminal label) held =
        by_same (collected-Terminal names_of_parts (record { terminal = terminal_of terminal; label = label }))
        (terminal_held terminal held)
    statement_held (ScopeStatement scope body) held =
        by_parts (scope_name scope) _
        (collected-Scope names_of_parts (record { scope = scope; instructions = block_of body })) held.0
        (as_block body (statements_held body held.1))
    statement_held (PrunedScopeStatement scope body) held =
        by_parts (scope_name scope) _
        (collected-PrunedScope names_of_parts (record { scope = scope; instructions = block_of body })) held.0
        (as_block body (statements_held body held.1))

    terminal_held : (terminal : TreeTerminal) → HeldTerminal terminal →
        Held env (names_in_terminal (terminal_of terminal))
    terminal_held (Break target kind id) held = by_same (collected-Break names_of_parts target kind id) none
    terminal_held (Continue target kind id) held = by_same (collected-Continue names_of_parts target kind id) none
    terminal_held (Return value id) held = by_same (collected-Return names_of_parts value id) held
    terminal_held (Throw value id) held = by_same (collected-Throw names_of_parts value id) held
    terminal_held (Switch test cases id) held =
        by_parts (place_names test) _ (collected-Switch names_of_parts test (cases_of cases) id) held.0
        (cases_held cases held.1 id)
    terminal_held (DoWhile body test id) held =
        by_parts _ _ (collected-DoWhile names_of_parts (block_of body) (value_of test) id)
        (as_block body (statements_held body held.0)) (value_held test held.1 id)
    terminal_held (While test body id) held =
        by_parts _ _ (collected-While names_of_parts (value_of test) (block_of body) id) (value_held test held.0 id)
        (as_block body (statements_held body held.1))
    terminal_held (For init test update body id) held =
        by_parts _ _
        (collected-For names_of_parts (value_of init) (value_of test) (option_map value_of update) (block_of body) id)
        (value_held init held.0 id)
        (both _ _ (value_held test held.1 id)
        (both _ _ (as_block body (statements_held body held.2)) (option_held update held.3 id)))
    terminal_held (ForOf init test body span id) held =
        by_parts _ _ (collected-ForOf names_of_parts (value_of init) (value_of test) (block_of body) span id)
        (value_held init held.0 id) (both _ _ (value_held test held.1 id) (as_block body (statements_held body held.2)))
    terminal_held (ForIn init body span id) held =
        by_parts _ _ (collected-ForIn names_of_parts (value_of init) (block_of body) span id)
        (value_held init held.0 id) (as_block body (statements_held body held.1))
    terminal_held (If test consequent alternate id) held =
        by_parts (place_names test) _
        (collected-If names_of_parts test (block_of consequent) (alternate_of alternate) id) held.0
        (both _ _ (as_block consequent (statements_held consequent held.1)) (alternate_held alternate held.2))
    terminal_held (Label body id) held =
        by_same (collected-Label names_of_parts (block_of body) id) (as_block body (statements_held body held))
    terminal_held (Try body binding handler id) held =
        by_parts _ _ (collected-Try names_of_parts (block_of body) binding (block_of handler) id)
        (as_block body (statements_held body held.0))
        (both _ _ held.1 (as_block handler (statements_held handler held.2)))

    alternate_held : (alternate : Alternate) → HeldAlternate alternate →
        Held env (collected_if names_of_parts (alternate_of alternate))
    alternate_held Absent held = none
    alternate_held (Present body) held = as_block body (statements_held body held)

    cases_held : (cases : Cases) → HeldCases cases → (id : EvaluationOrder) →
        Held env (collected_cases names_of_parts id (cases_of cases))
    cases_held NoCases held id = none
    cases_held (Case test body rest) held id =
        both _ _
        (by_parts _ _ (collected-case names_of_parts test (alternate_of body) id) held.0 (alternate_held body held.1))
        (cases_held rest held.2 id)

  pub block_held : (body : Statements) → HeldStatements body → Held env (names_in (block_of body))
  block_held body held = as_block body (statements_held body held)
