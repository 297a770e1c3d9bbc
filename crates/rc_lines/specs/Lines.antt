-- The printed lines of a tree: a table of the terminals, each with its first line and the lines below.
use Rattle.std.specs.Prelude.{ℕ, List, ◌∷◌, [], Option, Some, None, codes, decimal, option_map}
use Rattle.rc_names.specs.Numbers.{EvaluationOrder, ScopeId}
use Rattle.rc_hir.specs.Model.{Place}
use Rattle.rc_tree.specs.Joining.{Joining, all_of, from_around, if_there, lists}
use Rattle.rc_tree.specs.Kind.{kind_word}
use Rattle.rc_tree.specs.TreeFold.{TreeFold, over_block, over_case, over_statement, over_terminal}
use Rattle.rc_tree.specs.Model.{ReactiveLabel, ReactiveTerminal, ReactiveSwitchCase, ReactiveBlock, ReactiveStatement}
use Rattle.rc_tree.specs.Model.{ReactiveValue}
use Rattle.rc_tree.specs.declared.statement.ReactiveStatement.TheOpen as layer
use Rattle.rc_lines.specs.LineText.{◌&◌, line, deeper, span_text, place_text, id_text}
use Rattle.rc_lines.specs.ValueLines.{value_text, row_text}

-- from the spaces that its first line begins with to the lines of a part of the tree
abbrev pub Lines : Type 0
Lines = ℕ → List ℕ

-- the lines of one part, and then those of another, with the same spaces in front
abbrev pub in_order : Joining Lines
in_order = from_around lists

-- the lines one after the other
abbrev pub all_lines : List Lines → Lines
all_lines = all_of in_order

-- a named part, with its block
abbrev pub part : List ℕ → Lines → Lines
part name block indent = line indent name & block (deeper indent)

-- a named part, where there is one
abbrev pub optional_part : List ℕ → Option Lines → Lines
optional_part name block = if_there in_order (option_map (part name) block)

-- a value after its name
abbrev pub value_line : List ℕ → ReactiveValue → Lines
value_line name value indent = line indent (name & value_text value)

-- a value after its name, where there is one
abbrev pub optional_value_line : List ℕ → Option ReactiveValue → Lines
optional_value_line name value = if_there in_order (option_map (value_line name) value)

-- the name of a handler's part
abbrev pub catch_text : Option Place → List ℕ
catch_text None = codes "catch"
catch_text (Some binding) = codes "catch " & place_text binding

-- the name of a case's part
abbrev pub case_text : Option Place → List ℕ
case_text None = codes "default"
case_text (Some test) = codes "case " & place_text test

-- a case's part
abbrev pub case_part : Option Place → Option Lines → Lines
case_part test None indent = line indent (case_text test & codes " none")
case_part test (Some block) indent = part (case_text test) block indent

-- the block of a scope below its name and number
abbrev pub scope_part : List ℕ → ScopeId → Lines → Lines
scope_part name scope block = part (name & decimal scope.0) block

-- a terminal: its first line, which its label is part of, the values of a loop, and the blocks below
pub record TerminalLines : Type 0 where
  pub head : Option ReactiveLabel → List ℕ
  pub values : Lines
  pub blocks : Lines

-- a terminal by its name, and a loop with its values and its body below
abbrev pub named : List ℕ → EvaluationOrder → Option ReactiveLabel → List ℕ
named name id label = name & id_text id label

abbrev pub one_line : (Option ReactiveLabel → List ℕ) → TerminalLines
one_line head = record { head = head; values = in_order.nothing; blocks = in_order.nothing }

abbrev pub with_blocks : (Option ReactiveLabel → List ℕ) → Lines → TerminalLines
with_blocks head blocks = record { head = head; values = in_order.nothing; blocks = blocks }

abbrev pub loop : (Option ReactiveLabel → List ℕ) → Lines → Lines → TerminalLines
loop head values body = record { head = head; values = values; blocks = part (codes "body") body }

-- a part's variant, with the lines of its own parts in their places
abbrev pub WithLines : (Type 0 → Type 0 → Type 0 → Type 0 → Type 0 → Type 0 → Type 0 → Type 0) → Type 0
WithLines Open = Open Lines TerminalLines Lines Lines Lines Lines Lines

-- each terminal; the test of a do-while comes after its body
abbrev pub of_terminal : WithLines layer.ReactiveTerminal-F → TerminalLines
of_terminal (layer.Break target kind id) =
    one_line (named (codes "break bb" & decimal target.0 & codes " " & kind_word kind) id)
of_terminal (layer.Continue target kind id) =
    one_line (named (codes "continue bb" & decimal target.0 & codes " " & kind_word kind) id)
of_terminal (layer.Return value id) = one_line (named (codes "return " & place_text value) id)
of_terminal (layer.Throw value id) = one_line (named (codes "throw " & place_text value) id)
of_terminal (layer.If test consequent alternate id) =
    with_blocks (named (codes "if " & place_text test) id)
    (in_order.both (part (codes "then") consequent) (optional_part (codes "else") alternate))
of_terminal (layer.Switch test cases id) =
    with_blocks (named (codes "switch " & place_text test) id) (all_lines cases)
of_terminal (layer.DoWhile body test id) =
    with_blocks (named (codes "do") id) (in_order.both (part (codes "body") body) (value_line (codes "test ") test))
of_terminal (layer.While test body id) = loop (named (codes "while") id) (value_line (codes "test ") test) body
of_terminal (layer.For init test update body id) =
    loop (named (codes "for") id) (in_order.both (value_line (codes "init ") init)
    (in_order.both (value_line (codes "test ") test) (optional_value_line (codes "update ") update))) body
of_terminal (layer.ForOf init test body span id) =
    loop (λ label. named (codes "forof") id label & span_text span)
    (in_order.both (value_line (codes "init ") init) (value_line (codes "test ") test)) body
of_terminal (layer.ForIn init body span id) =
    loop (λ label. named (codes "forin") id label & span_text span) (value_line (codes "init ") init) body
of_terminal (layer.Label block id) = with_blocks (named (codes "label") id) (part (codes "body") block)
of_terminal (layer.Try block binding handler id) =
    with_blocks (named (codes "try") id)
    (in_order.both (part (codes "block") block) (part (catch_text binding) handler))

-- the lines of a statement; those of a row are one
abbrev pub of_statement : WithLines layer.ReactiveStatement-F → Lines
of_statement (layer.Instruction row) indent = line indent (row_text row)
of_statement (layer.Terminal statement) indent = statement indent
of_statement (layer.Scope scope) indent = scope indent
of_statement (layer.PrunedScope scope) indent = scope indent

-- the lines of a terminal with its label
abbrev pub of_labeled : WithLines layer.ReactiveTerminalStatement-F → Lines
of_labeled statement indent =
    line indent (statement.terminal.head statement.label) & statement.terminal.values (deeper indent) &
    statement.terminal.blocks (deeper indent)

-- the lines of each kind of part, from those of its own parts
abbrev pub printing : TreeFold Lines TerminalLines Lines Lines Lines Lines Lines
printing = record {
  statement = of_statement;
  terminal = of_terminal;
  pruned_scope = λ x. scope_part (codes "pruned ") x.scope x.instructions;
  scope = λ x. scope_part (codes "scope ") x.scope x.instructions;
  block = λ x. all_lines x.statements;
  case = λ x. case_part x.test x.block;
  labeled = of_labeled;
}

-- the lines of a statement, a terminal, a case and a block
abbrev pub statement_lines : ReactiveStatement → Lines
statement_lines = over_statement printing

abbrev pub terminal_lines : ReactiveTerminal → TerminalLines
terminal_lines = over_terminal printing

abbrev pub case_lines : ReactiveSwitchCase → Lines
case_lines = over_case printing

abbrev pub block_lines : ReactiveBlock → Lines
block_lines = over_block printing
