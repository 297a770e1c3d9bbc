-- What becomes of a list from a place on: where no head is before the place, nothing goes into a block before it.
use Rattle.std.proofs.Common.{◌≡◌, Bool, true, false, List, [], ◌∷◌, Option, None, Some, map, refl, ap}
use Rattle.rc_hir.specs.Model.{Environment, InstructionValue, Place, ReactiveScope}
use Rattle.rc_merge.specs.Groups.{copies_at, head_at, joins_if, names_at}
use Rattle.rc_merge.specs.Joining.{Copies}
use Rattle.rc_merge.specs.LastUses.{LastUses}
use Rattle.rc_merge.specs.MergedList.{Rest, met_block, passed_over, rest_at, rest_by}
use Rattle.rc_merge.specs.Places.{Item, Passed, Block, Other, item_if, item_of_row, item_of_value, passes, scope_at}
use Rattle.rc_tree.specs.CollectedValues.{instruction_of}
use Rattle.rc_tree.specs.Unrolled.{UnrolledStatement}
use Rattle.rc_tree.specs.Model.{ReactiveInstruction, ReactiveStatement}
use Rattle.rc_tree.specs.declared.statement.ReactiveStatement.{out-ReactiveStatement, roll-ReactiveStatement}
use Rattle.rc_tree.specs.declared.statement.ReactiveStatement.{roll-out-ReactiveStatement}
use Rattle.rc_tree.specs.declared.statement.ReactiveStatement.TheOpen as layer

-- an item that is no scope block
abbrev pub IsNoBlock : Item → Type 0
IsNoBlock (Block scope) = ⊥
IsNoBlock _ = Unit {0}

-- a row is no scope block
module _ (env : Environment) where
  no_block_if : (b : Bool) (target : Option Place) (value : InstructionValue) → IsNoBlock (item_if env b target value)
  no_block_if true target value = tt
  no_block_if false target value = tt

  value_no_block : (target : Option Place) (value : Option InstructionValue)
      → IsNoBlock (item_of_value env target value)
  value_no_block target None = tt
  value_no_block target (Some value) = no_block_if (passes value) target value

  pub row_no_block : (row : ReactiveInstruction) → IsNoBlock (item_of_row env row)
  row_no_block row = value_no_block row.lvalue (instruction_of row.value)

-- a statement rolled back is the statement
pub rolled_back : (xs : List ReactiveStatement) → map roll-ReactiveStatement (map out-ReactiveStatement xs) ≡ xs
rolled_back [] = refl
rolled_back (x ∷ xs) = λ i. roll-out-ReactiveStatement x i ∷ rolled_back xs i

module _ (env : Environment) (uses : LastUses) (copies : Copies) (scopes : List ReactiveScope) where
  abbrev NoHead : List Item → Type 0
  NoHead before = head_at env uses copies before ≡ None

  no_head_after : (it : Item) → IsNoBlock it → (before : List Item) → NoHead before → NoHead (it ∷ before)
  no_head_after (Passed row) is before none = none
  no_head_after Other is before none = refl
  no_head_after (Block scope) is before none = absurd is

  row_pulls_none : (it : Item) → IsNoBlock it → (row : ReactiveInstruction) (before : List Item) (rest : Rest)
      → rest.pulled ≡ None
      → (rest_by env uses copies scopes it (layer.Instruction row) before rest).pulled ≡ None
  row_pulls_none (Passed passed) is row before rest none =
      ap (λ pulled. (passed_over (roll-ReactiveStatement (layer.Instruction row)) pulled rest.staying).pulled) none
  row_pulls_none Other is row before rest none = refl
  row_pulls_none (Block scope) is row before rest none = absurd is

  pub none_pulled : (us : List UnrolledStatement) (before : List Item) → NoHead before
      → (rest_at env uses copies scopes us before).pulled ≡ None
  none_pulled [] before none = refl
  none_pulled (layer.Instruction row ∷ us) before none =
      let it = item_of_row env row in
      let is = row_no_block env row in
      row_pulls_none it is row before (rest_at env uses copies scopes us (it ∷ before))
      (none_pulled us (it ∷ before) (no_head_after it is before none))
  none_pulled (layer.Terminal x ∷ us) before none = refl
  none_pulled (layer.PrunedScope x ∷ us) before none = refl
  none_pulled (layer.Scope block ∷ us) before none =
      let scope = scope_at scopes block.scope in
      ap (λ head. (met_block (joins_if env uses (copies_at env uses copies before) head (names_at before) scope) block
      (rest_at env uses copies scopes us (Block scope ∷ before))).pulled) none
