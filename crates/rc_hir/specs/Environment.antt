-- The facts that the environment has of an identifier, and the new entries that its counters give.
use Rattle.std.specs.Prelude.{◌≤◌, ◌-◌, ◌^◌, ◌⊎◌, ℕ, Bool, false, List, [], ◌∷◌, ◌++◌, Option, None}
use Rattle.std.specs.Prelude.{length, slice_get, option_and_then}
use Rattle.std.specs.Option.{option_map_or}
use Rattle.rc_names.specs.Numbers.{DeclarationId, IdentifierId, to_id}
use Rattle.rc_names.specs.declared.span.Span.{Span}
use Rattle.rc_hir.specs.Types.{signature_row}
use Rattle.rc_hir.specs.Model.{HirType, ShapeRow, Identifier, Environment}
use Rattle.rc_hir.specs.declared.types.HirType.TheVariants as types

-- an environment without entries, with both flags off and 0 as the next block's number
abbrev pub empty_environment : Environment
empty_environment = record {
  identifiers = [];
  types = [];
  scopes = [];
  functions = [];
  shapes = [];
  config = record { enable_forest = false; enable_preserve_existing_memoization_guarantees = false };
  next_block = 0;
}

-- the declaration of an identifier; a number outside its table stands for the declaration of its own number
abbrev pub declaration_of : Environment → IdentifierId → DeclarationId
declaration_of env number =
    option_map_or (λ identifier. identifier.declaration_id) (slice_get env.identifiers number.0) (to_id number.0)

-- the type of an identifier, if both are in their tables
abbrev pub type_of : Environment → IdentifierId → Option HirType
type_of env id =
    option_and_then (λ identifier. slice_get env.types identifier.type_.0) (slice_get env.identifiers id.0)

-- the row of shapes that the identifier's type names, if it is the type of a function with such a row
abbrev pub signature : Environment → IdentifierId → Option ShapeRow
signature env id =
    option_and_then (λ row. slice_get env.shapes row) (option_and_then signature_row (type_of env id))

-- the identifier is a hook
abbrev pub is_hook : Environment → IdentifierId → Bool
is_hook env id = option_map_or (λ row. row.hook) (signature env id) false

-- calls of the identifier never return an alias of an argument
abbrev pub has_no_alias_signature : Environment → IdentifierId → Bool
has_no_alias_signature env id = option_map_or (λ row. row.no_alias) (signature env id) false

-- a table has no number left for a new entry
abbrev pub IsFull : {T : Type 0} → List T → Type 0
IsFull entries = 2 ^ 32 - 1 ≤ length entries

-- no number is left for a new identifier or for a new type
abbrev pub IsOutOfNumbers : Environment → Type 0
IsOutOfNumbers env = IsFull env.identifiers ⊎ IsFull env.types

-- the environment with one more type, of which nothing is known
abbrev pub with_type : Environment → Environment
with_type env = record env { types = env.types ++ types.Other ∷ [] }

-- an identifier whose declaration has its own number, with no name and no scope
abbrev pub unnamed : ℕ → ℕ → Option Span → Identifier
unnamed number type_number span = record {
  declaration_id = to_id number;
  name = None;
  scope = None;
  type_ = to_id type_number;
  span = span;
}

-- the environment with one more identifier, which has a new type of its own
abbrev pub with_identifier : Option Span → Environment → Environment
with_identifier span env =
    record (with_type env)
    { identifiers = env.identifiers ++ unnamed (length env.identifiers) (length env.types) span ∷ [] }
