-- Reading a function as two tables.
pub mod Values
pub mod Terminals
use Rattle.std.specs.Prelude.{[], ◌∷◌, Option, Some, codes, option_map}
use Rattle.serde_json.specs.Data.{Data}
use Rattle.rc_tree.specs.Model.{ReactiveLabel}
use Rattle.rc_doc.specs.Numbers.{id_of}
use Rattle.rc_doc.specs.Places.{param_of, span_of}
use Rattle.rc_doc.specs.Reading.{◌>>=◌, content, field, flag_field, list_field, list_of, number_of, only, option_field}
use Rattle.rc_doc.specs.Reading.{tag_of, text_of, variant}
use Rattle.rc_flat.specs.Model.{FlatFunction, FlatScopeBlock, FlatStatement, FlatTerminalStatement}
use Rattle.rc_flat.specs.ReadingFlat.Terminals.{flat_terminal_of}
use Rattle.rc_flat.specs.ReadingFlat.Values.{flat_instruction_of, nested_value_of}
use Rattle.rc_flat.specs.declared.statement.FlatStatement.TheVariants as flat

-- the label of a statement
unfoldable pub label_of : Data → Option ReactiveLabel
label_of d = do
  _ ← only (codes "id" ∷ codes "implicit" ∷ []) d
  id ← field id_of (codes "id") d
  implicit ← flag_field (codes "implicit") d
  Some (record { id = id; implicit = implicit })

-- a terminal with its label
unfoldable pub terminal_statement_of : Data → Option FlatTerminalStatement
terminal_statement_of d = do
  _ ← only (codes "label" ∷ codes "terminal" ∷ []) d
  terminal ← field flat_terminal_of (codes "terminal") d
  label ← option_field label_of (codes "label") d
  Some (record { terminal = terminal; label = label })

-- the block of a scope
unfoldable pub scope_block_of : Data → Option FlatScopeBlock
scope_block_of d = do
  _ ← only (codes "instructions" ∷ codes "scope" ∷ []) d
  scope ← field id_of (codes "scope") d
  instructions ← field number_of (codes "instructions") d
  Some (record { scope = scope; instructions = instructions })

-- a statement
unfoldable pub statement_of : Data → Option FlatStatement
statement_of d = do
  _ ← only (codes "k" ∷ codes "v" ∷ []) d
  name ← tag_of d
  variant (
      (codes "Instruction", option_map flat.Instruction (content flat_instruction_of d))
      ∷ (codes "Terminal", option_map flat.Terminal (content terminal_statement_of d))
      ∷ (codes "Scope", option_map flat.Scope (content scope_block_of d))
      ∷ (codes "PrunedScope", option_map flat.PrunedScope (content scope_block_of d))
      ∷ []) name

-- a function as two tables
unfoldable pub flat_function_of : Data → Option FlatFunction
flat_function_of d = do
  _ ← only (codes "blocks" ∷ codes "directives" ∷ codes "generator" ∷ codes "id" ∷ codes "is_async" ∷ codes "name_hint"
      ∷ codes "params" ∷ codes "span" ∷ codes "values" ∷ []) d
  span ← option_field span_of (codes "span") d
  id ← option_field text_of (codes "id") d
  name_hint ← option_field text_of (codes "name_hint") d
  params ← list_field param_of (codes "params") d
  generator ← flag_field (codes "generator") d
  is_async ← flag_field (codes "is_async") d
  blocks ← list_field (list_of statement_of) (codes "blocks") d
  values ← list_field nested_value_of (codes "values") d
  directives ← list_field text_of (codes "directives") d
  Some (record {
    span = span;
    id = id;
    name_hint = name_hint;
    params = params;
    generator = generator;
    is_async = is_async;
    blocks = blocks;
    values = values;
    directives = directives;
  })
