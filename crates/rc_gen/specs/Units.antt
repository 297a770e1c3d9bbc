-- The units of a generated document: the kind of each, its numbers, and the parts that it adds to graph and tables.
--
-- A unit has a scope with one row, which makes an array. Unless the unit's scope is kept, an `If` follows, which keeps
-- this scope from joining the next one.
use Rattle.std.specs.Prelude.{◌+◌, ◌*◌, ◌%◌, ℕ, zero, suc, Bool, true, false, List, [], ◌∷◌, ◌++◌, Option, None, Some}
use Rattle.std.specs.Prelude.{if◌then◌else◌, map, nat_eq}
use Rattle.rc_hir.specs.Model.{ArrayElement, BasicBlock, DeclarationEntry, Identifier, Instruction, InstructionValue}
use Rattle.rc_hir.specs.Model.{Place, ReactiveScope, ReactiveScopeDependency, Terminal}
use Rattle.rc_hir.specs.declared.instruction.InstructionValue.TheVariants as values
use Rattle.rc_hir.specs.declared.pattern.ArrayElement.TheVariants as elements
use Rattle.rc_hir.specs.declared.place.Effect.TheVariants.{Read}
use Rattle.rc_hir.specs.declared.terminal.GotoVariant.TheVariants.{Break}
use Rattle.rc_hir.specs.declared.terminal.Terminal.TheVariants as terminals
use Rattle.rc_names.specs.Numbers.{BlockId, ScopeId, to_id}
use Rattle.rc_gen.specs.declared.kind.Kind.{Kind}
use Rattle.rc_gen.specs.declared.kind.Kind.TheVariants.{Kept, Merged, NotEscaping, Unused, AlwaysInvalidating}

-- the kind of a unit, by the remainder of its number by five
abbrev pub kind_of : ℕ → Kind
kind_of unit =
    if nat_eq (unit % 5) 0 then Kept else (
    if nat_eq (unit % 5) 1 then Merged else (
    if nat_eq (unit % 5) 2 then NotEscaping else (
    if nat_eq (unit % 5) 3 then Unused else AlwaysInvalidating)))

-- a place that reads an identifier
abbrev pub place : ℕ → Bool → Place
place number reactive = record { identifier = to_id number; effect = Read; reactive = reactive; span = None }

-- an array of places
abbrev pub array : List ArrayElement → InstructionValue
array items = values.ArrayExpression items None

-- an array of one place that is reactive
abbrev pub array_of : ℕ → InstructionValue
array_of number = array (elements.Place (place number true) ∷ [])

-- a row with an id and a target
abbrev pub row : ℕ → ℕ → InstructionValue → Instruction
row id target value = record { id = to_id id; lvalue = place target false; value = value; span = None }

-- a block with a number, the numbers of its rows, and its terminal
abbrev pub block : ℕ → List ℕ → Terminal → BlockId × BasicBlock
block number rows terminal =
    (to_id number, record { id = to_id number; instructions = map to_id rows; terminal = terminal })

-- the parameter, an array that is made outside of scopes, and the result
abbrev pub parameter : ℕ
parameter = 0

abbrev pub shared_array : ℕ
shared_array = 1

abbrev pub outcome : ℕ
outcome = 2

-- the array that a unit makes in its scope, and what its `If` makes
abbrev pub array_name : ℕ → ℕ
array_name unit = 3 + 2 * unit

abbrev pub other_name : ℕ → ℕ
other_name unit = 4 + 2 * unit

-- the identifier of a scope's array depends on
abbrev pub source_of : Kind → ℕ
source_of AlwaysInvalidating = shared_array
source_of kind = parameter

-- how many ids a unit takes: a scope terminal, a row and a jump, and as many again for its `If`
abbrev pub ids_of : Kind → ℕ
ids_of Kept = 3
ids_of kind = 6

-- how many rows a unit has
abbrev pub rows_of : Kind → ℕ
rows_of Kept = 1
rows_of kind = 2

-- The id of the terminal that opens the scope of a unit. Ids rise by one in the order of blocks, from the 1 of the row
-- that makes the shared array.
abbrev pub scope_id : ℕ → ℕ
scope_id zero = 2
scope_id (suc unit) = scope_id unit + ids_of (kind_of unit)

-- the number of the row in the scope of a unit; the shared array's row has number 0
abbrev pub scope_row : ℕ → ℕ
scope_row zero = 1
scope_row (suc unit) = scope_row unit + rows_of (kind_of unit)

-- The rows of a unit, from the id of its scope's terminal: that of its scope, and that of its `If`.
abbrev pub scope_rows : Kind → ℕ → ℕ → List Instruction
scope_rows kind unit id = row (id + 1) (array_name unit) (array_of (source_of kind)) ∷ []

abbrev pub if_rows : Kind → ℕ → ℕ → List Instruction
if_rows Kept unit id = []
if_rows kind unit id = row (id + 4) (other_name unit) (values.Debugger None) ∷ []

-- the fallthrough of the scope of a unit: the block of its `If`, or the next unit's block if it has none
abbrev pub fallthrough_of : Kind → ℕ → ℕ
fallthrough_of Kept unit = 4 * unit + 4
fallthrough_of kind unit = 4 * unit + 2

-- a jump to a block
abbrev pub jump : ℕ → ℕ → Terminal
jump block id = terminals.Goto (to_id block) Break (to_id id) None

-- the terminals of a unit
abbrev pub opening : ℕ → ℕ → Terminal
opening unit id =
    terminals.Scope (to_id (fallthrough_of (kind_of unit) unit)) (to_id (4 * unit + 1)) (to_id unit) (to_id id) None

abbrev pub branching : ℕ → ℕ → Terminal
branching unit id =
    terminals.If (place parameter false) (to_id (4 * unit + 3)) (to_id (4 * unit + 4)) (to_id (4 * unit + 4)) (to_id id)
    None

-- the row of the shared array is in the first unit's first block
abbrev pub opening_rows : ℕ → List ℕ
opening_rows zero = 0 ∷ []
opening_rows (suc unit) = []

-- The blocks of a unit, from the id of its scope's terminal and the number of the row in its scope: those of its scope,
-- and those of its `If`.
abbrev pub scope_blocks : ℕ → ℕ → ℕ → List (BlockId × BasicBlock)
scope_blocks unit id number =
    block (4 * unit) (opening_rows unit) (opening unit id)
    ∷ (block (4 * unit + 1) (number ∷ []) (jump (fallthrough_of (kind_of unit) unit) (id + 2)) ∷ [])

abbrev pub if_blocks : Kind → ℕ → ℕ → ℕ → List (BlockId × BasicBlock)
if_blocks Kept unit id number = []
if_blocks kind unit id number =
    block (4 * unit + 2) [] (branching unit (id + 3))
    ∷ (block (4 * unit + 3) ((number + 1) ∷ []) (jump (4 * unit + 4) (id + 5)) ∷ [])

-- an identifier whose declaration has its own number
abbrev pub identifier : ℕ → ℕ → Option ScopeId → Identifier
identifier number type scope =
    record { declaration_id = to_id number; name = None; scope = scope; type_ = to_id type; span = None }

-- the two identifiers of a unit: type 1 is that of arrays
abbrev pub unit_identifiers : ℕ → List Identifier
unit_identifiers unit =
    identifier (array_name unit) 1 (Some (to_id unit)) ∷ (identifier (other_name unit) 0 None ∷ [])

-- the dependencies and the declarations of the scope of a unit
abbrev pub dependency : ℕ → ReactiveScopeDependency
dependency number = record { identifier = to_id number; reactive = true; path = []; span = None }

abbrev pub dependencies : Kind → List ReactiveScopeDependency
dependencies Unused = []
dependencies kind = dependency (source_of kind) ∷ []

abbrev pub declarations : Kind → ℕ → List DeclarationEntry
declarations Unused unit = []
declarations kind unit =
    record { key = to_id (array_name unit); value = record { identifier = to_id (array_name unit); scope = to_id unit } }
    ∷ []

-- the scope of a unit: from the id of its terminal to one above that of its jump
abbrev pub unit_scope : ℕ → ℕ → ReactiveScope
unit_scope unit id = record {
  range = record { start = to_id id; end = to_id (id + 3) };
  dependencies = dependencies (kind_of unit);
  declarations = declarations (kind_of unit) unit;
  reassignments = [];
  early_return_value = None;
  merged = [];
}

-- what the result has of a unit: its array, where that is to escape
abbrev pub escaping : Kind → ℕ → List ArrayElement
escaping NotEscaping unit = []
escaping Unused unit = []
escaping kind unit = elements.Place (place (array_name unit) false) ∷ []
