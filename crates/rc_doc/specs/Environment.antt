-- The environment, whose tables a graph's numbers index.
pub mod Types
pub mod Scopes
use Rattle.std.specs.Prelude.{[], ◌∷◌, Option, Some, option_map, codes}
use Rattle.serde_json.specs.Data.{Data}
use Rattle.rc_hir.specs.Model.{Config, Environment, Identifier, IdentifierName}
use Rattle.rc_hir.specs.declared.environment.IdentifierName.TheVariants as names
use Rattle.rc_doc.specs.Graph.{function_of}
use Rattle.rc_doc.specs.Numbers.{id_of}
use Rattle.rc_doc.specs.Places.{span_of}
use Rattle.rc_doc.specs.Reading.{◌>>=◌, content, field, flag_field, list_field, number_of, only, option_field}
use Rattle.rc_doc.specs.Reading.{table_field, tag_of, text_of, variant}
use Rattle.rc_doc.specs.Environment.Types.{type_of, shape_row_of}
use Rattle.rc_doc.specs.Environment.Scopes.{scope_of}

-- a name in the source, or one that a pass gave
unfoldable pub identifier_name_of : Data → Option IdentifierName
identifier_name_of d = do
  _ ← only (codes "k" ∷ codes "v" ∷ []) d
  name ← tag_of d
  variant (
      (codes "Named", option_map names.Named (content text_of d))
      ∷ (codes "Promoted", option_map names.Promoted (content text_of d))
      ∷ []) name

-- the entry of an identifier
unfoldable pub identifier_of : Data → Option Identifier
identifier_of d = do
  _ ← only (codes "declaration_id" ∷ codes "name" ∷ codes "scope" ∷ codes "span" ∷ codes "type_" ∷ []) d
  declaration_id ← field id_of (codes "declaration_id") d
  name ← option_field identifier_name_of (codes "name") d
  scope ← option_field id_of (codes "scope") d
  type_ ← field id_of (codes "type_") d
  span ← option_field span_of (codes "span") d
  Some (record { declaration_id = declaration_id; name = name; scope = scope; type_ = type_; span = span })

-- the options that the passes go by
unfoldable pub config_of : Data → Option Config
config_of d = do
  _ ← only (codes "enable_forest" ∷ codes "enable_preserve_existing_memoization_guarantees" ∷ []) d
  forest ← flag_field (codes "enable_forest") d
  preserve ← flag_field (codes "enable_preserve_existing_memoization_guarantees") d
  Some (record { enable_forest = forest; enable_preserve_existing_memoization_guarantees = preserve })

-- the tables, and the next number of a block
unfoldable pub environment_of : Data → Option Environment
environment_of d = do
  _ ← only (codes "config" ∷ codes "functions" ∷ codes "identifiers" ∷ codes "next_block" ∷ codes "scopes" ∷ codes
      "shapes" ∷ codes "types" ∷ []) d
  identifiers ← table_field identifier_of (codes "identifiers") d
  types ← table_field type_of (codes "types") d
  scopes ← table_field scope_of (codes "scopes") d
  functions ← table_field function_of (codes "functions") d
  shapes ← list_field shape_row_of (codes "shapes") d
  config ← field config_of (codes "config") d
  next_block ← field number_of (codes "next_block") d
  Some (record {
    identifiers = identifiers;
    types = types;
    scopes = scopes;
    functions = functions;
    shapes = shapes;
    config = config;
    next_block = next_block;
  })
