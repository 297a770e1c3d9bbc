-- The first layer of the program's tree, of each form of a plain tree.
use Rattle.std.proofs.Common.{◌≡◌, sym, ap, ◌∙◌, option_map}
use Rattle.rc_tree.specs.Unrolled.{UnrolledStatement, UnrolledTerminal}
use Rattle.rc_tree.specs.Model.{ReactiveInstruction}
use Rattle.rc_tree.specs.declared.value.ReactiveValue.{ReactiveValue, ReactiveValue-F, out-ReactiveValue}
use Rattle.rc_tree.specs.declared.value.ReactiveValue.TheVariants as reactive_values
use Rattle.rc_tree.specs.declared.value.ReactiveValue.TheOpen as value_layers
use Rattle.rc_tree.specs.declared.statement.ReactiveStatement.{out-ReactiveStatement}
use Rattle.rc_tree.specs.declared.statement.ReactiveStatement.TheVariants as reactive
use Rattle.rc_tree.specs.declared.statement.ReactiveStatement.TheOpen as layers
use Rattle.rc_tree.specs.declared.terminal.ReactiveTerminal.{out-ReactiveTerminal}
use Rattle.rc_tree.specs.declared.terminal.ReactiveTerminal.TheVariants as tree
use Rattle.rc_runs.specs.PlainTree.{Value, Base, Logical, Conditional, Sequence, Optional, Statement, RowStatement}
use Rattle.rc_runs.specs.PlainTree.{TerminalStatement, ScopeStatement, PrunedScopeStatement, TreeTerminal, Break}
use Rattle.rc_runs.specs.PlainTree.{Continue, Return, Throw, Switch, DoWhile, While, For, ForOf, ForIn, If, Label, Try}
use Rattle.rc_runs.specs.TreeOf.{value_of, instructions_of, statement_of, terminal_of, alternate_of, cases_of, block_of}

-- the form of a value's tree
abbrev pub value_layer : Value → ReactiveValue-F ReactiveValue ReactiveInstruction
value_layer (Base value) = value_layers.Instruction value
value_layer (Logical operator left right) = value_layers.LogicalExpression operator (value_of left) (value_of right)
value_layer (Conditional test consequent alternate) =
    value_layers.ConditionalExpression (value_of test) (value_of consequent) (value_of alternate)
value_layer (Sequence rows id value) = value_layers.SequenceExpression (instructions_of rows) id (value_of value)
value_layer (Optional value optional) = value_layers.OptionalExpression (value_of value) optional

out-value_of : (value : Value) → out-ReactiveValue (value_of value) ≡ value_layer value
out-value_of (Base value) = reactive_values.outs-Instruction value
out-value_of (Logical operator left right) =
    reactive_values.outs-LogicalExpression operator (value_of left) (value_of right)
out-value_of (Conditional test consequent alternate) =
    reactive_values.outs-ConditionalExpression (value_of test) (value_of consequent) (value_of alternate)
out-value_of (Sequence rows id value) =
    reactive_values.outs-SequenceExpression (instructions_of rows) id (value_of value)
out-value_of (Optional value optional) = reactive_values.outs-OptionalExpression (value_of value) optional

pub same_value_layer : (a b : Value) → value_of a ≡ value_of b → value_layer a ≡ value_layer b
same_value_layer a b e = sym (out-value_of a) ∙ (ap out-ReactiveValue e ∙ out-value_of b)

-- the forms of a statement's tree and of a terminal's
abbrev pub statement_layer : Statement → UnrolledStatement
statement_layer (RowStatement id target value span) =
    layers.Instruction (record { id = id; lvalue = target; value = value_of value; span = span })
statement_layer (TerminalStatement terminal label) =
    layers.Terminal (record { terminal = terminal_of terminal; label = label })
statement_layer (ScopeStatement scope body) = layers.Scope (record { scope = scope; instructions = block_of body })
statement_layer (PrunedScopeStatement scope body) =
    layers.PrunedScope (record { scope = scope; instructions = block_of body })

abbrev pub terminal_layer : TreeTerminal → UnrolledTerminal
terminal_layer (Break target kind id) = layers.Break target kind id
terminal_layer (Continue target kind id) = layers.Continue target kind id
terminal_layer (Return value id) = layers.Return value id
terminal_layer (Throw value id) = layers.Throw value id
terminal_layer (Switch test cases id) = layers.Switch test (cases_of cases) id
terminal_layer (DoWhile body test id) = layers.DoWhile (block_of body) (value_of test) id
terminal_layer (While test body id) = layers.While (value_of test) (block_of body) id
terminal_layer (For init test update body id) =
    layers.For (value_of init) (value_of test) (option_map value_of update) (block_of body) id
terminal_layer (ForOf init test body span id) = layers.ForOf (value_of init) (value_of test) (block_of body) span id
terminal_layer (ForIn init body span id) = layers.ForIn (value_of init) (block_of body) span id
terminal_layer (If test consequent alternate id) = layers.If test (block_of consequent) (alternate_of alternate) id
terminal_layer (Label body id) = layers.Label (block_of body) id
terminal_layer (Try body binding handler id) = layers.Try (block_of body) binding (block_of handler) id

out-statement_of : (statement : Statement) → out-ReactiveStatement (statement_of statement) ≡ statement_layer statement
out-statement_of (RowStatement id target value span) = reactive.outs-Instruction _
out-statement_of (TerminalStatement terminal label) = reactive.outs-Terminal _
out-statement_of (ScopeStatement scope body) = reactive.outs-Scope _
out-statement_of (PrunedScopeStatement scope body) = reactive.outs-PrunedScope _

out-terminal_of : (terminal : TreeTerminal) → out-ReactiveTerminal (terminal_of terminal) ≡ terminal_layer terminal
out-terminal_of (Break target kind id) = tree.outs-Break target kind id
out-terminal_of (Continue target kind id) = tree.outs-Continue target kind id
out-terminal_of (Return value id) = tree.outs-Return value id
out-terminal_of (Throw value id) = tree.outs-Throw value id
out-terminal_of (Switch test cases id) = tree.outs-Switch test (cases_of cases) id
out-terminal_of (DoWhile body test id) = tree.outs-DoWhile (block_of body) (value_of test) id
out-terminal_of (While test body id) = tree.outs-While (value_of test) (block_of body) id
out-terminal_of (For init test update body id) =
    tree.outs-For (value_of init) (value_of test) (option_map value_of update) (block_of body) id
out-terminal_of (ForOf init test body span id) =
    tree.outs-ForOf (value_of init) (value_of test) (block_of body) span id
out-terminal_of (ForIn init body span id) = tree.outs-ForIn (value_of init) (block_of body) span id
out-terminal_of (If test consequent alternate id) =
    tree.outs-If test (block_of consequent) (alternate_of alternate) id
out-terminal_of (Label body id) = tree.outs-Label (block_of body) id
out-terminal_of (Try body binding handler id) = tree.outs-Try (block_of body) binding (block_of handler) id

pub same_statement_layer : (a b : Statement) → statement_of a ≡ statement_of b → statement_layer a ≡ statement_layer b
same_statement_layer a b e = sym (out-statement_of a) ∙ (ap out-ReactiveStatement e ∙ out-statement_of b)

pub same_terminal_layer : (a b : TreeTerminal) → terminal_of a ≡ terminal_of b → terminal_layer a ≡ terminal_layer b
same_terminal_layer a b e = sym (out-terminal_of a) ∙ (ap out-ReactiveTerminal e ∙ out-terminal_of b)
