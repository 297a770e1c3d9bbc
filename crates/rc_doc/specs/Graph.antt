-- Functions and their graphs; the keys of the blocks are distinct.
use Rattle.std.specs.Prelude.{◌==◌, ◌&&◌, Bool, true, not, List, [], ◌∷◌, Option, Some, None, if◌then◌else◌, codes}
use Rattle.std.specs.Prelude.{unwrap_or}
use Rattle.std.specs.List.{list_any}
use Rattle.serde_json.specs.Data.{Data}
use Rattle.rc_names.specs.Numbers.{BlockId}
use Rattle.rc_hir.specs.Model.{BasicBlock, Hir, HirFunction, Instruction}
use Rattle.rc_doc.specs.Kinds.{instruction_value_of}
use Rattle.rc_doc.specs.Numbers.{id_of}
use Rattle.rc_doc.specs.Places.{param_of, place_of, span_of}
use Rattle.rc_doc.specs.Reading.{◌>>=◌, field, flag_field, list_field, list_of, only, option_field, text_of}
use Rattle.rc_doc.specs.Terminals.{terminal_of}

-- a row, which computes a value for its target
unfoldable pub instruction_of : Data → Option Instruction
instruction_of d = do
  _ ← only (codes "id" ∷ codes "lvalue" ∷ codes "span" ∷ codes "value" ∷ []) d
  id ← field id_of (codes "id") d
  lvalue ← field place_of (codes "lvalue") d
  value ← field instruction_value_of (codes "value") d
  span ← option_field span_of (codes "span") d
  Some (record { id = id; lvalue = lvalue; value = value; span = span })

-- a block; its `key` isn't a part of it
unfoldable pub block_of : Data → Option BasicBlock
block_of d = do
  _ ← only (codes "id" ∷ codes "instructions" ∷ codes "key" ∷ codes "terminal" ∷ []) d
  id ← field id_of (codes "id") d
  instructions ← list_field id_of (codes "instructions") d
  terminal ← field terminal_of (codes "terminal") d
  Some (record { id = id; instructions = instructions; terminal = terminal })

-- a block with its key, which is the block's id if it is left out
unfoldable pub keyed_block_of : Data → Option (BlockId × BasicBlock)
keyed_block_of d = do
  block ← block_of d
  key ← option_field id_of (codes "key") d
  Some (unwrap_or key block.id, block)

-- one of the blocks has that key
abbrev pub has_key : BlockId → List (BlockId × BasicBlock) → Bool
has_key key blocks = list_any (λ entry. key.0 == entry.0.0) blocks

-- no two blocks have the same key
abbrev pub are_distinct : List (BlockId × BasicBlock) → Bool
are_distinct [] = true
are_distinct (entry ∷ blocks) = not (has_key entry.0 blocks) && are_distinct blocks

-- the blocks, if no two have the same key
abbrev pub if_distinct : List (BlockId × BasicBlock) → Option (List (BlockId × BasicBlock))
if_distinct blocks = if are_distinct blocks then Some blocks else None

-- blocks with distinct keys, in order
unfoldable pub blocks_of : Data → Option (List (BlockId × BasicBlock))
blocks_of d = do
  blocks ← list_of keyed_block_of d
  if_distinct blocks

-- a graph
unfoldable pub hir_of : Data → Option Hir
hir_of d = do
  _ ← only (codes "blocks" ∷ codes "entry" ∷ []) d
  entry ← field id_of (codes "entry") d
  blocks ← field blocks_of (codes "blocks") d
  Some (record { entry = entry; blocks = blocks })

-- a function: its header, its context, and its graph
unfoldable pub function_of : Data → Option HirFunction
function_of d = do
  _ ← only (codes "body" ∷ codes "context" ∷ codes "directives" ∷ codes "generator" ∷ codes "id" ∷ codes "instructions"
      ∷ codes "is_async" ∷ codes "name_hint" ∷ codes "params" ∷ codes "span" ∷ []) d
  span ← option_field span_of (codes "span") d
  id ← option_field text_of (codes "id") d
  name_hint ← option_field text_of (codes "name_hint") d
  params ← list_field param_of (codes "params") d
  generator ← flag_field (codes "generator") d
  is_async ← flag_field (codes "is_async") d
  context ← list_field place_of (codes "context") d
  body ← field hir_of (codes "body") d
  instructions ← list_field instruction_of (codes "instructions") d
  directives ← list_field text_of (codes "directives") d
  Some (record {
    span = span;
    id = id;
    name_hint = name_hint;
    params = params;
    generator = generator;
    is_async = is_async;
    context = context;
    body = body;
    instructions = instructions;
    directives = directives;
  })
