-- Two scope blocks with the store of a constant between them: the second depends on the copy of what the first
-- declares, and joins it. Where the copy is used after the second, it doesn't.
use Rattle.std.proofs.Common.{◌≡◌, ℕ, List, [], ◌∷◌, true, false, None, Some, Ok, refl}
use Rattle.rc_hir.specs.Model.{DeclarationEntry, Environment, Identifier, InstructionValue, Place, ReactiveScope}
use Rattle.rc_hir.specs.Model.{ReactiveScopeDependency}
use Rattle.rc_hir.specs.declared.instruction.InstructionValue.TheVariants as kinds
use Rattle.rc_hir.specs.declared.pattern.ArrayElement.TheVariants as element
use Rattle.rc_hir.specs.declared.pattern.InstructionKind.TheVariants.{Const}
use Rattle.rc_hir.specs.declared.place.Effect.TheVariants.{Read}
use Rattle.rc_hir.specs.declared.types.HirType.TheVariants as types
use Rattle.rc_hir.specs.declared.types.Shape.TheVariants.{Array}
use Rattle.rc_names.specs.Numbers.{ScopeId, to_id}
use Rattle.rc_merge.specs.Inputs.{same_inputs, whole}
use Rattle.rc_merge.specs.Joining.{no_copies}
use Rattle.rc_merge.specs.LastUses.{LastUses, last_uses_of}
use Rattle.rc_merge.specs.MergedList.{joined_at, merged_list, scopes_at}
use Rattle.rc_merge.specs.Places.{items_of}
use Rattle.rc_tree.specs.Unrolled.{UnrolledStatement}
use Rattle.rc_tree.specs.Visits.{Visit}
use Rattle.rc_tree.specs.declared.fate.Fate.TheVariants.{MergedInto}
use Rattle.rc_tree.specs.Model.{ReactiveBlock, ReactiveInstruction}
use Rattle.rc_tree.specs.declared.statement.ReactiveStatement.TheOpen as layer
use Rattle.rc_tree.specs.declared.statement.ReactiveStatement.TheVariants as reactive
use Rattle.rc_tree.specs.declared.value.ReactiveValue.TheVariants as reactive_values

abbrev place : ℕ → Place
place number = record { identifier = to_id number; effect = Read; reactive = false; span = None }

abbrev identifier : ℕ → ℕ → Identifier
identifier number type =
    record { declaration_id = to_id number; name = None; scope = None; type_ = to_id type; span = None }

abbrev depends_on : ℕ → ReactiveScopeDependency
depends_on number = record { identifier = to_id number; reactive = true; path = []; span = None }

abbrev declares : ℕ → ScopeId → DeclarationEntry
declares number scope = record { key = to_id number; value = record { identifier = to_id number; scope = scope } }

abbrev scope : ℕ → ℕ → ℕ → ℕ → ℕ → ReactiveScope
scope number start end dependency declared = record {
  range = record { start = to_id start; end = to_id end };
  dependencies = depends_on dependency ∷ [];
  declarations = declares declared (to_id number) ∷ [];
  reassignments = [];
  early_return_value = None;
  merged = [];
}

abbrev scopes : List ReactiveScope
scopes = scope 0 1 4 0 1 ∷ (scope 1 5 8 2 3 ∷ [])

abbrev env : Environment
env = record {
  identifiers = identifier 0 0 ∷ (identifier 1 1 ∷ (identifier 2 1 ∷ (identifier 3 1 ∷ (identifier 4 0 ∷ []))));
  types = types.Other ∷ (types.Object (Some Array) ∷ []);
  scopes = scopes;
  functions = [];
  shapes = [];
  config = record { enable_forest = false; enable_preserve_existing_memoization_guarantees = false };
  next_block = 5;
}

abbrev row : ℕ → ℕ → InstructionValue → ReactiveInstruction
row id target value = record {
  id = to_id id;
  lvalue = Some (place target);
  value = reactive_values.Instruction value;
  span = None;
}

abbrev array_of : ℕ → InstructionValue
array_of number = kinds.ArrayExpression (element.Place (place number) ∷ []) None

abbrev block_of : ReactiveInstruction → ReactiveBlock
block_of x = record { statements = reactive.Instruction x ∷ [] }

abbrev store : ReactiveInstruction
store = row 4 4 (kinds.StoreLocal (record { kind = Const; place = place 2 }) (place 1) None)

abbrev list : List UnrolledStatement
list = layer.Scope (record { scope = to_id 0; instructions = block_of (row 2 1 (array_of 0)) })
    ∷ (layer.Instruction store
    ∷ (layer.Scope (record { scope = to_id 1; instructions = block_of (row 6 3 (array_of 2)) }) ∷ []))

abbrev used : ℕ → ℕ → Visit
used id number = Ok (record { id = to_id id; place = place number; enclosing = [] })

-- with the last uses of the body
abbrev uses : LastUses
uses = last_uses_of env (used 2 0 ∷ (used 4 1 ∷ (used 6 2 ∷ (used 8 3 ∷ []))))

-- and where the stored name is used after the second block
abbrev later_uses : LastUses
later_uses = last_uses_of env (used 2 0 ∷ (used 4 1 ∷ (used 6 2 ∷ (used 8 2 ∷ (used 9 3 ∷ [])))))

joins : joined_at env uses no_copies scopes (items_of env scopes list)
    ≡ record { scope = to_id 1; fate = MergedInto (to_id 0) } ∷ []
joins = refl

merges : merged_list env uses no_copies scopes list ≡ reactive.Scope (record {
  scope = to_id 0;
  instructions = record {
    statements = reactive.Instruction (row 2 1 (array_of 0)) ∷ (reactive.Instruction store
        ∷ (reactive.Instruction (row 6 3 (array_of 2)) ∷ []));
  };
}) ∷ []
merges = λ i. reactive.Scope (record {
  scope = to_id 0;
  instructions = record {
    statements = reactive.Instruction (row 2 1 (array_of 0)) ∷ (reactive.rolls-Instruction store i
        ∷ (reactive.Instruction (row 6 3 (array_of 2)) ∷ []));
  };
}) ∷ []

grows : scopes_at env uses no_copies scopes (items_of env scopes list)
    ≡ record (scope 0 1 8 0 3) { declarations = declares 3 (to_id 1) ∷ []; merged = to_id 1 ∷ [] }
    ∷ (scope 1 5 8 2 3 ∷ [])
grows = refl

stays_apart : joined_at env later_uses no_copies scopes (items_of env scopes list) ≡ []
stays_apart = refl

-- a list that holds an input twice isn't the same as one of as many others, whichever comes first
twice : same_inputs (whole (to_id 0) ∷ (whole (to_id 0) ∷ [])) (whole (to_id 0) ∷ (whole (to_id 1) ∷ [])) ≡ false
twice = refl

once : same_inputs (whole (to_id 0) ∷ (whole (to_id 1) ∷ [])) (whole (to_id 0) ∷ (whole (to_id 0) ∷ [])) ≡ false
once = refl

turned : same_inputs (whole (to_id 0) ∷ (whole (to_id 1) ∷ [])) (whole (to_id 1) ∷ (whole (to_id 0) ∷ [])) ≡ true
turned = refl
