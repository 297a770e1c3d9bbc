-- The printing form of a function as two tables.
use Rattle.std.specs.Prelude.{codes}
use Rattle.serde_json.specs.Data.{Data, boolean, Members, no_members, object, string}
use Rattle.rc_tree.specs.Model.{ReactiveLabel, ReactiveTerminalTargetKind}
use Rattle.rc_tree.specs.declared.kind.ReactiveTerminalTargetKind.TheVariants as target
use Rattle.rc_show.specs.Showing.{◌▸◌, add, add_some, list_data, number_data, tagged, variant_data}
use Rattle.rc_show.specs.ShownKinds.{add_span, value_data}
use Rattle.rc_show.specs.ShownParts.Places.{place_data}
use Rattle.rc_flat.specs.Model.{FlatFunction, FlatInstruction, FlatScopeBlock, FlatStatement, FlatSwitchCase}
use Rattle.rc_flat.specs.Model.{FlatTerminal, FlatTerminalStatement, FlatValue, NestedValue}
use Rattle.rc_flat.specs.ShownGraph.{add_id, add_name, logical_operator_data, param_data}
use Rattle.rc_flat.specs.declared.statement.FlatStatement.TheVariants as flat
use Rattle.rc_flat.specs.declared.terminal.FlatTerminal.TheVariants as terminals
use Rattle.rc_flat.specs.declared.value.FlatValue.TheVariants as values
use Rattle.rc_flat.specs.declared.value.NestedValue.TheVariants as entry

-- a value in its place: an instruction itself, and any other value by its number
unfoldable pub flat_value_data : FlatValue → Data
flat_value_data (values.Instruction x) = value_data x
flat_value_data (values.Nested n) = variant_data (codes "Nested") (number_data n)

-- the way in which a jump finds its target
unfoldable pub target_kind_data : ReactiveTerminalTargetKind → Data
target_kind_data target.Implicit = string (codes "Implicit")
target_kind_data target.Labeled = string (codes "Labeled")
target_kind_data target.Unlabeled = string (codes "Unlabeled")

-- the label of a statement
unfoldable pub label_data : ReactiveLabel → Data
label_data x = object (no_members ▸ add_id (codes "id") x.id ▸ add (codes "implicit") (boolean x.implicit))

-- a row
unfoldable pub flat_instruction_data : FlatInstruction → Data
flat_instruction_data row =
    object (no_members ▸ add_id (codes "id") row.id ▸ add_some place_data (codes "lvalue") row.lvalue
    ▸ add_span row.span ▸ add (codes "value") (flat_value_data row.value))

-- the fields of a nested value
abbrev pub nested_value_fields : NestedValue → Members
nested_value_fields (entry.LogicalExpression operator left right) =
    no_members ▸ tagged (codes "LogicalExpression") ▸ add (codes "left") (flat_value_data left)
    ▸ add (codes "operator") (logical_operator_data operator) ▸ add (codes "right") (flat_value_data right)
nested_value_fields (entry.ConditionalExpression test consequent alternate) =
    no_members ▸ add (codes "alternate") (flat_value_data alternate)
    ▸ add (codes "consequent") (flat_value_data consequent) ▸ tagged (codes "ConditionalExpression")
    ▸ add (codes "test") (flat_value_data test)
nested_value_fields (entry.SequenceExpression instructions id value) =
    no_members ▸ add_id (codes "id") id ▸ add (codes "instructions") (list_data flat_instruction_data instructions)
    ▸ tagged (codes "SequenceExpression") ▸ add (codes "value") (flat_value_data value)
nested_value_fields (entry.OptionalExpression value optional) =
    no_members ▸ tagged (codes "OptionalExpression") ▸ add (codes "optional") (boolean optional)
    ▸ add (codes "value") (flat_value_data value)

-- a nested value
unfoldable pub nested_value_data : NestedValue → Data
nested_value_data value = object (nested_value_fields value)

-- a case of a switch
unfoldable pub flat_case_data : FlatSwitchCase → Data
flat_case_data case =
    object (no_members ▸ add_some number_data (codes "block") case.block ▸ add_some place_data (codes "test") case.test)

-- the fields of a terminal
abbrev pub flat_terminal_fields : FlatTerminal → Members
flat_terminal_fields (terminals.Break target kind id) =
    no_members ▸ add_name (codes "Break") id ▸ add_id (codes "target") target
    ▸ add (codes "target_kind") (target_kind_data kind)
flat_terminal_fields (terminals.Continue target kind id) =
    no_members ▸ add_name (codes "Continue") id ▸ add_id (codes "target") target
    ▸ add (codes "target_kind") (target_kind_data kind)
flat_terminal_fields (terminals.Return value id) =
    no_members ▸ add_name (codes "Return") id ▸ add (codes "value") (place_data value)
flat_terminal_fields (terminals.Throw value id) =
    no_members ▸ add_name (codes "Throw") id ▸ add (codes "value") (place_data value)
flat_terminal_fields (terminals.Switch test cases id) =
    no_members ▸ add (codes "cases") (list_data flat_case_data cases) ▸ add_name (codes "Switch") id
    ▸ add (codes "test") (place_data test)
flat_terminal_fields (terminals.DoWhile loop_block test id) =
    no_members ▸ add_name (codes "DoWhile") id ▸ add (codes "loop_block") (number_data loop_block)
    ▸ add (codes "test") (flat_value_data test)
flat_terminal_fields (terminals.While test loop_block id) =
    no_members ▸ add_name (codes "While") id ▸ add (codes "loop_block") (number_data loop_block)
    ▸ add (codes "test") (flat_value_data test)
flat_terminal_fields (terminals.For init test update loop_block id) =
    no_members ▸ add_id (codes "id") id ▸ add (codes "init") (flat_value_data init) ▸ tagged (codes "For")
    ▸ add (codes "loop_block") (number_data loop_block) ▸ add (codes "test") (flat_value_data test)
    ▸ add_some flat_value_data (codes "update") update
flat_terminal_fields (terminals.ForOf init test loop_block span id) =
    no_members ▸ add_id (codes "id") id ▸ add (codes "init") (flat_value_data init) ▸ tagged (codes "ForOf")
    ▸ add (codes "loop_block") (number_data loop_block) ▸ add_span span ▸ add (codes "test") (flat_value_data test)
flat_terminal_fields (terminals.ForIn init loop_block span id) =
    no_members ▸ add_id (codes "id") id ▸ add (codes "init") (flat_value_data init) ▸ tagged (codes "ForIn")
    ▸ add (codes "loop_block") (number_data loop_block) ▸ add_span span
flat_terminal_fields (terminals.If test consequent alternate id) =
    no_members ▸ add_some number_data (codes "alternate") alternate ▸ add (codes "consequent") (number_data consequent)
    ▸ add_name (codes "If") id ▸ add (codes "test") (place_data test)
flat_terminal_fields (terminals.Label block id) =
    no_members ▸ add (codes "block") (number_data block) ▸ add_name (codes "Label") id
flat_terminal_fields (terminals.Try block handler_binding handler id) =
    no_members ▸ add (codes "block") (number_data block) ▸ add (codes "handler") (number_data handler)
    ▸ add_some place_data (codes "handler_binding") handler_binding ▸ add_name (codes "Try") id

-- a terminal
unfoldable pub flat_terminal_data : FlatTerminal → Data
flat_terminal_data terminal = object (flat_terminal_fields terminal)

-- a terminal with its label
unfoldable pub terminal_statement_data : FlatTerminalStatement → Data
terminal_statement_data x =
    object (no_members ▸ add_some label_data (codes "label") x.label
    ▸ add (codes "terminal") (flat_terminal_data x.terminal))

-- the block of a scope
unfoldable pub scope_block_data : FlatScopeBlock → Data
scope_block_data x =
    object (no_members ▸ add (codes "instructions") (number_data x.instructions) ▸ add_id (codes "scope") x.scope)

-- a statement
unfoldable pub statement_data : FlatStatement → Data
statement_data (flat.Instruction x) = variant_data (codes "Instruction") (flat_instruction_data x)
statement_data (flat.Terminal x) = variant_data (codes "Terminal") (terminal_statement_data x)
statement_data (flat.Scope x) = variant_data (codes "Scope") (scope_block_data x)
statement_data (flat.PrunedScope x) = variant_data (codes "PrunedScope") (scope_block_data x)

-- a function as two tables
unfoldable pub flat_function_data : FlatFunction → Data
flat_function_data func =
    object (no_members ▸ add (codes "blocks") (list_data (list_data statement_data) func.blocks)
    ▸ add (codes "directives") (list_data string func.directives) ▸ add (codes "generator") (boolean func.generator)
    ▸ add_some string (codes "id") func.id ▸ add (codes "is_async") (boolean func.is_async)
    ▸ add_some string (codes "name_hint") func.name_hint ▸ add (codes "params") (list_data param_data func.params)
    ▸ add_span func.span ▸ add (codes "values") (list_data nested_value_data func.values))
