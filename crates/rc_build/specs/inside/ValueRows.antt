-- The rows of the blocks of values, as the builder puts them.
use Rattle.std.specs.Prelude.{◌≡◌, true, false, List, [], ◌∷◌, Option, Some, None, map, slice_get, if◌then◌else◌}
use Rattle.std.specs.List.{list_any}
use Rattle.rc_names.specs.Numbers.{BlockId, InstructionId, EvaluationOrder, is_among}
use Rattle.rc_hir.specs.Model.{InstructionValue, Instruction, HirFunction, Environment}
use Rattle.rc_hir.specs.declared.instruction.InstructionValue.TheVariants as kinds
use Rattle.rc_tree.specs.Model.{ReactiveInstruction, ReactiveValue}
use Rattle.rc_tree.specs.declared.value.ReactiveValue.TheVariants as reactive
use Rattle.rc_runs.specs.Graph.{rows_of}
use Rattle.rc_runs.specs.Silent.{is_unset, is_unnamed}
use Rattle.rc_runs.specs.PlainTree.{Base}
use Rattle.rc_runs.specs.TreeOf.{value_of}
use Rattle.rc_build.specs.declared.value_rows.NamingStore.{NamingStore}
use Rattle.rc_build.specs.BlockFacts.{BlockIs}

-- the block under the key lists these numbers
abbrev pub AreListed : HirFunction → BlockId → List InstructionId → Type 0
AreListed hir key numbers = BlockIs hir key (λ block. (number : InstructionId) → is_among numbers number ≡ true →
    is_among block.instructions number ≡ true)

-- the number is that of the row, whose id is set
pub record HasRow (hir : HirFunction) (number : InstructionId) (row : Instruction) : Type 0 where
  pub found : slice_get hir.instructions number.0 ≡ Some row
  pub set : is_unset row.id ≡ false

-- a row as a row of a sequence
abbrev pub row_of : Instruction → ReactiveInstruction
row_of row = record { id = row.id; lvalue = Some row.lvalue; value = value_of (Base row.value); span = row.span }

-- the numbers are those of rows whose ids are set, as rows of a sequence
pub record HasRows (hir : HirFunction) (numbers : List InstructionId) (made : List ReactiveInstruction) : Type 0 where
  pub rows : List Instruction
  pub filled : rows_of hir.instructions numbers ≡ Some rows
  pub set : list_any (λ row. is_unset row.id) rows ≡ false
  pub is : made ≡ map row_of rows

-- what a store into an identifier without a name stores and writes
abbrev pub naming_of : Environment → InstructionValue → Option NamingStore
naming_of env (kinds.StoreLocal lvalue value span) =
    if is_unnamed env lvalue.place then Some (record { stored = value; written = lvalue.place }) else None
naming_of env value = None

-- a value with rows before it: a sequence, if there are any
abbrev pub behind_rows : List ReactiveInstruction → EvaluationOrder → ReactiveValue → ReactiveValue
behind_rows [] id value = value
behind_rows (row ∷ rows) id value = reactive.SequenceExpression (row ∷ rows) id value
