-- The printing form of graphs, which a document's readers read as those graphs again.
use Rattle.std.specs.Prelude.{ℕ, ◌==◌, List, Option, None, Some, codes, if◌then◌else◌}
use Rattle.serde_json.specs.Data.{Data, boolean, Members, no_members, object, string}
use Rattle.rc_names.specs.declared.numbers.Id.{Id}
use Rattle.rc_names.specs.Numbers.{BlockId, EvaluationOrder}
use Rattle.rc_hir.specs.Model.{BasicBlock, Case, GotoVariant, Hir, HirFunction, Instruction, LogicalOperator}
use Rattle.rc_hir.specs.Model.{ParamPattern, Terminal}
use Rattle.rc_hir.specs.declared.instruction.LogicalOperator.TheVariants as operators
use Rattle.rc_hir.specs.declared.place.ParamPattern.TheVariants as params
use Rattle.rc_hir.specs.declared.terminal.GotoVariant.TheVariants as variants
use Rattle.rc_hir.specs.declared.terminal.Terminal.TheVariants as terminals
use Rattle.rc_show.specs.Showing.{◌▸◌, add, add_some, id_data, list_data, tagged, variant_data}
use Rattle.rc_show.specs.ShownKinds.{add_span, value_data}
use Rattle.rc_show.specs.ShownParts.Places.{place_data, spread_data}

-- the members with a typed number at the end
abbrev pub add_id : {K : Type 0} → List ℕ → Id K → Members → Members
add_id name id = add name (id_data id)

-- a parameter
unfoldable pub param_data : ParamPattern → Data
param_data (params.Place place) = variant_data (codes "Place") (place_data place)
param_data (params.Spread spread) = variant_data (codes "Spread") (spread_data spread)

-- an operator that may skip its right side
unfoldable pub logical_operator_data : LogicalOperator → Data
logical_operator_data operators.And = string (codes "And")
logical_operator_data operators.Or = string (codes "Or")
logical_operator_data operators.Coalesce = string (codes "Coalesce")

-- a kind of jump
unfoldable pub goto_variant_data : GotoVariant → Data
goto_variant_data variants.Break = string (codes "Break")
goto_variant_data variants.Continue = string (codes "Continue")
goto_variant_data variants.Try = string (codes "Try")

-- a case of a switch
unfoldable pub case_data : Case → Data
case_data case = object (no_members ▸ add_id (codes "block") case.block ▸ add_some place_data (codes "test") case.test)

-- the id of a terminal, and then the name of its variant
abbrev pub add_name : List ℕ → EvaluationOrder → Members → Members
add_name name id fields = fields ▸ add_id (codes "id") id ▸ tagged name

-- the fields of a terminal
abbrev pub terminal_fields : Terminal → Members
terminal_fields (terminals.If test consequent alternate fallthrough id span) =
    no_members ▸ add_id (codes "alternate") alternate ▸ add_id (codes "consequent") consequent
    ▸ add_id (codes "fallthrough") fallthrough ▸ add_name (codes "If") id ▸ add_span span
    ▸ add (codes "test") (place_data test)
terminal_fields (terminals.Branch test consequent alternate id span) =
    no_members ▸ add_id (codes "alternate") alternate ▸ add_id (codes "consequent") consequent
    ▸ add_name (codes "Branch") id ▸ add_span span ▸ add (codes "test") (place_data test)
terminal_fields (terminals.Logical operator test fallthrough id span) =
    no_members ▸ add_id (codes "fallthrough") fallthrough ▸ add_name (codes "Logical") id
    ▸ add (codes "operator") (logical_operator_data operator) ▸ add_span span ▸ add_id (codes "test") test
terminal_fields (terminals.Ternary test fallthrough id span) =
    no_members ▸ add_id (codes "fallthrough") fallthrough ▸ add_name (codes "Ternary") id ▸ add_span span
    ▸ add_id (codes "test") test
terminal_fields (terminals.Optional optional test fallthrough id span) =
    no_members ▸ add_id (codes "fallthrough") fallthrough ▸ add_name (codes "Optional") id
    ▸ add (codes "optional") (boolean optional) ▸ add_span span ▸ add_id (codes "test") test
terminal_fields (terminals.Sequence block fallthrough id span) =
    no_members ▸ add_id (codes "block") block ▸ add_id (codes "fallthrough") fallthrough
    ▸ add_name (codes "Sequence") id ▸ add_span span
terminal_fields (terminals.Throw value id span) =
    no_members ▸ add_name (codes "Throw") id ▸ add_span span ▸ add (codes "value") (place_data value)
terminal_fields (terminals.Return value id span) =
    no_members ▸ add_name (codes "Return") id ▸ add_span span ▸ add (codes "value") (place_data value)
terminal_fields (terminals.Goto block variant id span) =
    no_members ▸ add_id (codes "block") block ▸ add_name (codes "Goto") id ▸ add_span span
    ▸ add (codes "variant") (goto_variant_data variant)
terminal_fields (terminals.Switch test cases fallthrough id span) =
    no_members ▸ add (codes "cases") (list_data case_data cases) ▸ add_id (codes "fallthrough") fallthrough
    ▸ add_name (codes "Switch") id ▸ add_span span ▸ add (codes "test") (place_data test)
terminal_fields (terminals.DoWhile loop_block test fallthrough id span) =
    no_members ▸ add_id (codes "fallthrough") fallthrough ▸ add_name (codes "DoWhile") id
    ▸ add_id (codes "loop_block") loop_block ▸ add_span span ▸ add_id (codes "test") test
terminal_fields (terminals.While test loop_block fallthrough id span) =
    no_members ▸ add_id (codes "fallthrough") fallthrough ▸ add_name (codes "While") id
    ▸ add_id (codes "loop_block") loop_block ▸ add_span span ▸ add_id (codes "test") test
terminal_fields (terminals.For init test update loop_block fallthrough id span) =
    no_members ▸ add_id (codes "fallthrough") fallthrough ▸ add_id (codes "id") id ▸ add_id (codes "init") init
    ▸ tagged (codes "For") ▸ add_id (codes "loop_block") loop_block ▸ add_span span ▸ add_id (codes "test") test
    ▸ add_some id_data (codes "update") update
terminal_fields (terminals.ForOf init test loop_block fallthrough id span) =
    no_members ▸ add_id (codes "fallthrough") fallthrough ▸ add_id (codes "id") id ▸ add_id (codes "init") init
    ▸ tagged (codes "ForOf") ▸ add_id (codes "loop_block") loop_block ▸ add_span span ▸ add_id (codes "test") test
terminal_fields (terminals.ForIn init loop_block fallthrough id span) =
    no_members ▸ add_id (codes "fallthrough") fallthrough ▸ add_id (codes "id") id ▸ add_id (codes "init") init
    ▸ tagged (codes "ForIn") ▸ add_id (codes "loop_block") loop_block ▸ add_span span
terminal_fields (terminals.Label block fallthrough id span) =
    no_members ▸ add_id (codes "block") block ▸ add_id (codes "fallthrough") fallthrough ▸ add_name (codes "Label") id
    ▸ add_span span
terminal_fields (terminals.Unreachable id span) = no_members ▸ add_name (codes "Unreachable") id ▸ add_span span
terminal_fields (terminals.MaybeThrow continuation handler id span) =
    no_members ▸ add_id (codes "continuation") continuation ▸ add_some id_data (codes "handler") handler
    ▸ add_name (codes "MaybeThrow") id ▸ add_span span
terminal_fields (terminals.Scope fallthrough block scope id span) =
    no_members ▸ add_id (codes "block") block ▸ add_id (codes "fallthrough") fallthrough ▸ add_name (codes "Scope") id
    ▸ add_id (codes "scope") scope ▸ add_span span
terminal_fields (terminals.PrunedScope fallthrough block scope id span) =
    no_members ▸ add_id (codes "block") block ▸ add_id (codes "fallthrough") fallthrough
    ▸ add_name (codes "PrunedScope") id ▸ add_id (codes "scope") scope ▸ add_span span
terminal_fields (terminals.Try block handler_binding handler fallthrough id span) =
    no_members ▸ add_id (codes "block") block ▸ add_id (codes "fallthrough") fallthrough
    ▸ add_id (codes "handler") handler ▸ add_some place_data (codes "handler_binding") handler_binding
    ▸ add_name (codes "Try") id ▸ add_span span

-- the end of a block
unfoldable pub terminal_data : Terminal → Data
terminal_data terminal = object (terminal_fields terminal)

-- a row
unfoldable pub instruction_data : Instruction → Data
instruction_data row =
    object (no_members ▸ add_id (codes "id") row.id ▸ add (codes "lvalue") (place_data row.lvalue) ▸ add_span row.span
    ▸ add (codes "value") (value_data row.value))

-- the key of a block, if it isn't the block's id
abbrev pub other_key : BlockId → BlockId → Option BlockId
other_key key id = if key.0 == id.0 then None else Some key

-- a block with its key
unfoldable pub keyed_block_data : BlockId × BasicBlock → Data
keyed_block_data entry =
    object (no_members ▸ add_id (codes "id") entry.1.id
    ▸ add (codes "instructions") (list_data id_data entry.1.instructions)
    ▸ add_some id_data (codes "key") (other_key entry.0 entry.1.id)
    ▸ add (codes "terminal") (terminal_data entry.1.terminal))

-- a graph
unfoldable pub hir_data : Hir → Data
hir_data hir =
    object (no_members ▸ add (codes "blocks") (list_data keyed_block_data hir.blocks) ▸ add_id (codes "entry") hir.entry)

-- a function: its header, its context, and its graph
unfoldable pub function_data : HirFunction → Data
function_data func =
    object (no_members ▸ add (codes "body") (hir_data func.body)
    ▸ add (codes "context") (list_data place_data func.context)
    ▸ add (codes "directives") (list_data string func.directives) ▸ add (codes "generator") (boolean func.generator)
    ▸ add_some string (codes "id") func.id
    ▸ add (codes "instructions") (list_data instruction_data func.instructions)
    ▸ add (codes "is_async") (boolean func.is_async) ▸ add_some string (codes "name_hint") func.name_hint
    ▸ add (codes "params") (list_data param_data func.params) ▸ add_span func.span)
