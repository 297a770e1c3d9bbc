-- The generated document of a number of units.
use Rattle.std.specs.Prelude.{◌+◌, ◌*◌, ℕ, zero, suc, false, List, [], ◌∷◌, ◌++◌, None, Some}
use Rattle.rc_hir.specs.Model.{ArrayElement, BasicBlock, Environment, HirFunction, Identifier, Instruction}
use Rattle.rc_hir.specs.Model.{ReactiveScope}
use Rattle.rc_hir.specs.declared.place.ParamPattern.TheVariants as params
use Rattle.rc_hir.specs.declared.terminal.Terminal.TheVariants as terminals
use Rattle.rc_hir.specs.declared.types.HirType.TheVariants as types
use Rattle.rc_hir.specs.declared.types.Shape.TheVariants.{Array}
use Rattle.rc_names.specs.Numbers.{BlockId, to_id}
use Rattle.rc_doc.specs.declared.document.Doc.{Doc}
use Rattle.rc_gen.specs.Units.{array, array_of, block, escaping, identifier, if_blocks, if_rows, kind_of, outcome}
use Rattle.rc_gen.specs.Units.{parameter, place, row, scope_blocks, scope_id, scope_row, scope_rows, shared_array}
use Rattle.rc_gen.specs.Units.{unit_identifiers, unit_scope}

-- the most units of a document that the program generates
abbrev pub most_units : ℕ
most_units = 2000

-- The rows, blocks, identifiers and scopes of the first units, and the items of the result's array.
abbrev pub rows : ℕ → List Instruction
rows zero = row 1 shared_array (array_of parameter) ∷ []
rows (suc unit) =
    (rows unit ++ scope_rows (kind_of unit) unit (scope_id unit)) ++ if_rows (kind_of unit) unit (scope_id unit)

abbrev pub blocks : ℕ → List (BlockId × BasicBlock)
blocks zero = []
blocks (suc unit) =
    (blocks unit ++ scope_blocks unit (scope_id unit) (scope_row unit))
    ++ if_blocks (kind_of unit) unit (scope_id unit) (scope_row unit)

abbrev pub identifiers : ℕ → List Identifier
identifiers zero = identifier parameter 0 None ∷ (identifier shared_array 1 None ∷ (identifier outcome 0 None ∷ []))
identifiers (suc unit) = identifiers unit ++ unit_identifiers unit

abbrev pub scopes : ℕ → List ReactiveScope
scopes zero = []
scopes (suc unit) = scopes unit ++ unit_scope unit (scope_id unit) ∷ []

abbrev pub items : ℕ → List ArrayElement
items zero = []
items (suc unit) = items unit ++ escaping (kind_of unit) unit

-- the graph: after all units is a block that makes the result and returns it
abbrev pub generated_function : ℕ → HirFunction
generated_function units = record {
  span = None;
  id = None;
  name_hint = None;
  params = params.Place (place parameter false) ∷ [];
  generator = false;
  is_async = false;
  context = [];
  body = record {
    entry = to_id 0;
    blocks = blocks units ++ block (4 * units) (scope_row units ∷ [])
        (terminals.Return (place outcome false) (to_id (scope_id units + 1)) None) ∷ [];
  };
  instructions = rows units ++ row (scope_id units) outcome (array (items units)) ∷ [];
  directives = [];
}

-- the environment: types, identifiers and scopes alone
abbrev pub generated_environment : ℕ → Environment
generated_environment units = record {
  identifiers = identifiers units;
  types = types.Other ∷ (types.Object (Some Array) ∷ []);
  scopes = scopes units;
  functions = [];
  shapes = [];
  config = record { enable_forest = false; enable_preserve_existing_memoization_guarantees = false };
  next_block = 4 * units + 1;
}

-- the document
abbrev pub generated : ℕ → Doc
generated units = record { hir = generated_function units; env = generated_environment units }
