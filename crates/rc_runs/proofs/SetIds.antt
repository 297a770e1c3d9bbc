-- The ids of a usable block are set: those of its rows, and that of its terminal.
use Rattle.std.proofs.Common.{◌≡◌, List, [], ◌∷◌, ◌++◌, Bool, true, false, Option, Some, None, ◌&&◌, not}
use Rattle.std.proofs.Common.{if◌then◌else◌, refl, sym, ap, ◌∙◌, option_and_then}
use Rattle.std.proofs.lemmas.Bool.{or_parts}
use Rattle.std.specs.List.{list_any}
use Rattle.rc_names.specs.Numbers.{BlockId}
use Rattle.rc_hir.specs.Model.{Instruction, HirFunction}
use Rattle.rc_hir.specs.Terminal.{evaluation_order}
use Rattle.rc_runs.specs.Silent.{is_unset}
use Rattle.rc_runs.specs.Graph.{Block, usable_block, with_ids, has_all_ids, with_rows, under_own_number, basic_block}

-- no row has the id that means unset
abbrev pub AreSet : List Instruction → Type 0
AreSet rows = list_any (λ row. is_unset row.id) rows ≡ false

-- neither has the block's terminal
pub record HasSetIds (block : Block) : Type 0 where
  pub rows : AreSet block.rows
  pub terminal : is_unset (evaluation_order block.terminal) ≡ false

both_set : (a b : Bool) → not a && not b ≡ true → (a ≡ false) × (b ≡ false)
both_set true b e = absurd (let bad : ⊥ = cc in bad)
both_set false true e = absurd (let bad : ⊥ = cc in bad)
both_set false false e = (refl, refl)

with_ids-set : (found : Option Block) (block : Block) → option_and_then with_ids found ≡ Some block → HasSetIds block
with_ids-set None block e = absurd (let bad : ⊥ = cc in bad)
with_ids-set (Some other) block e = go (has_all_ids other) refl e
  where
    go : (set : Bool) → has_all_ids other ≡ set → (if set then Some other else None) ≡ Some block → HasSetIds block
    go true q e =
        let same : other ≡ block = cc in
        let set = both_set (list_any (λ row. is_unset row.id) block.rows) (is_unset (evaluation_order block.terminal))
        (sym (ap has_all_ids same) ∙ q) in
        record { rows = set.0; terminal = set.1 }
    go false q e = absurd (let bad : ⊥ = cc in bad)

pub usable_block-set : (hir : HirFunction) (key : BlockId) (block : Block) → usable_block hir key ≡ Some block
    → HasSetIds block
unfolding usable_block
usable_block-set hir key block e = with_ids-set (option_and_then (with_rows hir)
    (option_and_then (under_own_number key) (basic_block hir key))) block e

pub first_set : (row : Instruction) (rows : List Instruction) → AreSet (row ∷ rows)
    → (is_unset row.id ≡ false) × AreSet rows
first_set row rows set = or_parts (is_unset row.id) (list_any (λ row. is_unset row.id) rows) set

pub last_set : (rows : List Instruction) (row : Instruction) → AreSet (rows ++ row ∷ []) → is_unset row.id ≡ false
last_set [] row set = (first_set row [] set).0
last_set (first ∷ rows) row set = last_set rows row (first_set first (rows ++ row ∷ []) set).1
