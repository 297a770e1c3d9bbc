-- Silent arms: what a block has to be, and why another one is refused.
use Rattle.std.proofs.Common.{◌≡◌, Bool, true, false, List, [], ◌∷◌, ◌++◌, Option, Some, None, ◌||◌, ◌&&◌, not, refl, sym, ap}
use Rattle.std.proofs.Common.{◌∙◌, ℕ, ◌<◌, ◌+◌, length, take, get_or, subst, map, eq-eqb}
use Rattle.std.specs.Prelude.{slice_get}
use Rattle.std.specs.List.{list_any}
use Rattle.std.proofs.lemmas.Bool.{and_parts, not-true}
use Rattle.std.proofs.lemmas.List.Folds.{list_all-append, list_any_at}
use Rattle.rc_names.specs.Numbers.{BlockId, InstructionId, same_id, is_among}
use Rattle.rc_names.proofs.NumbersLemmas.{same_id-eq}
use Rattle.rc_hir.specs.Terminal.{evaluation_order}
use Rattle.rc_hir.specs.Model.{Instruction, BasicBlock, HirFunction, Environment}
use Rattle.rc_runs.specs.Graph.{Block, basic_block, usable_block, rows_of, has_all_ids}
use Rattle.rc_runs.specs.Silent.{is_silent, is_silent_value, is_unset}
use Rattle.rc_runs.specs.ShortArms.{are_silent}
use Rattle.rc_runs.proofs.GraphLemmas.{usable_block-at}
use Rattle.rc_build.specs.BlockFacts.{BlockIs}
use Rattle.rc_build.specs.inside.SilentArms.{HasSilentRows}
use Rattle.rc_build.specs.inside.ValueRows.{AreListed, HasRow, HasRows, row_of}
use Rattle.rc_build.proofs.RowsLemmas.{first_row, none_more, rows_more}
use Rattle.rc_build.proofs.UsableLemmas.{filled, found_block, unusable_missing, usable_ids, usable_made}

-- a row with an id is silent by its value
silent_row : (env : Environment) (row : Instruction) → is_unset row.id ≡ false
    → is_silent env row.id row.value ≡ is_silent_value env row.value
silent_row env row set = ap (λ b. b || is_silent_value env row.value) set

module _ (hir : HirFunction) (env : Environment) where
  -- the rows of the numbers, as rows of a sequence
  pub as_rows : (numbers : List InstructionId) (h : HasSilentRows hir env numbers) → HasRows hir numbers (map row_of h.rows)
  as_rows numbers h = record { rows = h.rows; filled = h.filled; set = h.set; is = refl }

  -- one more silent row
  pub silent_further : (numbers : List InstructionId) (i : ℕ) (d : InstructionId) (row : Instruction)
      → i < length numbers → HasSilentRows hir env (take i numbers) → HasRow hir (get_or numbers i d) row
      → is_silent_value env row.value ≡ true → HasSilentRows hir env (take (i + 1) numbers)
  silent_further numbers i d row lt h has quiet = record {
    rows = h.rows ++ row ∷ [];
    filled = rows_more hir.instructions numbers i d h.rows row lt h.filled has.found;
    set = none_more h.rows row h.set has.set;
    silent = list_all-append (λ (row : Instruction). is_silent env row.id row.value) h.rows (row ∷ [])
        ∙ ap (λ b. b && (is_silent env row.id row.value && true)) h.silent
        ∙ ap (λ b. b && true) (silent_row env row has.set ∙ quiet);
  }

  -- a row among silent ones is silent
  silent_among : (numbers : List InstructionId) (number : InstructionId) (rows : List Instruction) (row : Instruction)
      → is_among numbers number ≡ true → rows_of hir.instructions numbers ≡ Some rows → are_silent env rows ≡ true
      → HasRow hir number row → is_silent_value env row.value ≡ true
  silent_among [] number rows row among full silent has = let bad : ⊥ = cc in absurd bad
  silent_among (head ∷ numbers) number rows row among full silent has =
      let first = first_row hir.instructions head numbers rows full in
      let parts = and_parts (is_silent env first.row.id first.row.value) (are_silent env first.rest)
      (subst (λ z. are_silent env z ≡ true) first.whole silent) in
      go (same_id number head) refl among first.row first.first parts.0
      (λ later. silent_among numbers number first.rest row later first.later parts.1 has)
    where
      go : (same : Bool) → same_id number head ≡ same → (same || is_among numbers number) ≡ true → (found : Instruction)
          → slice_get hir.instructions head.0 ≡ Some found → is_silent env found.id found.value ≡ true
          → (is_among numbers number ≡ true → is_silent_value env row.value ≡ true)
          → is_silent_value env row.value ≡ true
      go true q among found at quiet later =
          let there : slice_get hir.instructions number.0 ≡ Some found =
          ap (λ (n : InstructionId). slice_get hir.instructions n.0) (same_id-eq number head q) ∙ at in
          let same : found ≡ row = (let z = has.found in cc) in
          sym (silent_row env row has.set) ∙ subst (λ (z : Instruction). is_silent env z.id z.value ≡ true) same quiet
      go false q among found at quiet later = later among

  -- so a row that isn't silent refuses the rows
  pub loud_refused : (numbers : List InstructionId) (i : ℕ) (d : InstructionId) (row : Instruction) → i < length numbers
      → HasRow hir (get_or numbers i d) row → is_silent_value env row.value ≡ false → HasSilentRows hir env numbers → ⊥
  loud_refused numbers i d row lt has loud h =
      let number = get_or numbers i d in
      let quiet = silent_among numbers number h.rows row
      (list_any_at (same_id number) numbers i d lt (eq-eqb number.0 number.0 refl)) h.filled h.silent has in
      let bad : ⊥ = cc in bad

-- all rows of a block are listed
pub all_listed : {hir : HirFunction} {key : BlockId} {block : BasicBlock} → basic_block hir key ≡ Some block
    → AreListed hir key block.instructions
all_listed {block = block} found = record { block = block; found = found; holds = λ number among. among }

-- a block that may be used is there
pub usable_there : (hir : HirFunction) (key : BlockId) (whole : Block) → usable_block hir key ≡ Some whole
    → BlockIs hir key (λ block. Unit {0})
usable_there hir key whole usable = go (basic_block hir key) refl
  where
    go : (found : Option BasicBlock) → basic_block hir key ≡ found → BlockIs hir key (λ block. Unit {0})
    go None none = let no = unusable_missing hir key none in let bad : ⊥ = cc in absurd bad
    go (Some block) found = record { block = block; found = found; holds = tt }

module _ {hir : HirFunction} {env : Environment} where
  -- a block that may be used and has silent rows
  pub silent_rows : (key : BlockId) {block : BasicBlock} → basic_block hir key ≡ Some block → (whole : Block)
      → usable_block hir key ≡ Some whole → are_silent env whole.rows ≡ true → HasSilentRows hir env block.instructions
  silent_rows key {block} found whole usable silent =
      let ids = usable_ids hir key block whole found usable in
      let at = found_block hir key block ids.rows found ids.filled in
      let same : whole ≡ filled block ids.rows = (let z = usable_block-at hir key whole usable in cc) in record {
        rows = ids.rows;
        filled = ids.filled;
        set = not-true (list_any (λ (row : Instruction). is_unset row.id) ids.rows) (and_parts _ _ ids.set).0;
        silent = subst (λ (z : Block). are_silent env z.rows ≡ true) same silent;
      }

  -- a block with silent rows whose ids are set
  pub silent_ids : (block : BasicBlock) (h : HasSilentRows hir env block.instructions)
      → is_unset (evaluation_order block.terminal) ≡ false → has_all_ids (filled block h.rows) ≡ true
  silent_ids block h set = ap (λ b. not b && not (is_unset (evaluation_order block.terminal))) h.set
      ∙ ap (λ b. true && not b) set

  pub silent_usable : (key : BlockId) (block : BasicBlock) → basic_block hir key ≡ Some block
      → same_id block.id key ≡ true → (h : HasSilentRows hir env block.instructions)
      → is_unset (evaluation_order block.terminal) ≡ false → usable_block hir key ≡ Some (filled block h.rows)
  silent_usable key block found own h set =
      usable_made hir key block h.rows found own h.filled (silent_ids block h set)
