-- The blocks that a tree may use: their parts, and when there is none.
use Rattle.std.proofs.Common.{◌≡◌, Bool, true, false, List, Option, Some, None, refl, sym, ap, ◌∙◌}
use Rattle.std.specs.Prelude.{option_map, option_and_then, if◌then◌else◌}
use Rattle.rc_names.specs.Numbers.{BlockId, same_id}
use Rattle.rc_hir.specs.Model.{Instruction, BasicBlock, HirFunction}
use Rattle.rc_runs.specs.Graph.{Block, basic_block, block_at, usable_block, rows_of, with_rows, with_ids}
use Rattle.rc_runs.specs.Graph.{has_all_ids, under_own_number}
use Rattle.rc_hir.specs.Terminal.{evaluation_order}
use Rattle.rc_runs.specs.Silent.{is_unset}
use Rattle.rc_runs.proofs.GraphLemmas.{usable_block-at}
use Rattle.rc_runs.proofs.SetIds.{usable_block-set}
use Rattle.rc_build.specs.inside.Rows.{HasIds}

-- a basic block with these rows
abbrev pub filled : BasicBlock → List Instruction → Block
filled block = λ rows. record { rows = rows; terminal = block.terminal }

module _ (hir : HirFunction) (key : BlockId) where
  pub unusable_missing : basic_block hir key ≡ None → usable_block hir key ≡ None
  unfolding usable_block
  unusable_missing e = ap (λ b. option_and_then with_ids
      (option_and_then (with_rows hir) (option_and_then (under_own_number key) b))) e

  pub unusable_numbered : (block : BasicBlock) → basic_block hir key ≡ Some block → same_id block.id key ≡ false
      → usable_block hir key ≡ None
  unfolding usable_block
  unusable_numbered block e n =
      let none : option_and_then (under_own_number key) (basic_block hir key) ≡ None =
      ap (option_and_then (under_own_number key)) e ∙ ap (λ b. if b then Some block else None) n in
      ap (λ b. option_and_then with_ids (option_and_then (with_rows hir) b)) none

  -- a block under its own number whose rows and ids are there
  pub usable_made : (block : BasicBlock) (rows : List Instruction) → basic_block hir key ≡ Some block
      → same_id block.id key ≡ true → rows_of hir.instructions block.instructions ≡ Some rows →
      has_all_ids (filled block rows) ≡ true → usable_block hir key ≡ Some (filled block rows)
  unfolding usable_block
  usable_made block rows e n f i =
      let own : option_and_then (under_own_number key) (basic_block hir key) ≡ Some block =
      ap (option_and_then (under_own_number key)) e ∙ ap (λ b. if b then Some block else None) n in
      let there : option_and_then (with_rows hir) (option_and_then (under_own_number key) (basic_block hir key))
      ≡ Some (filled block rows) =
      ap (option_and_then (with_rows hir)) own ∙ ap (option_map (filled block)) f in
      ap (option_and_then with_ids) there ∙ ap (λ b. if b then Some (filled block rows) else None) i

  ids_of : (block : BasicBlock) (whole : Block) → option_and_then with_ids (with_rows hir block) ≡ Some whole
      → HasIds hir block
  ids_of block whole e = go (rows_of hir.instructions block.instructions) refl e
    where
      pick : (rows : List Instruction) → rows_of hir.instructions block.instructions ≡ Some rows → (b : Bool) →
          has_all_ids (filled block rows) ≡ b → (if b then Some (filled block rows) else None) ≡ Some whole
          → HasIds hir block
      pick rows f true i h = record { rows = rows; filled = f; set = i }
      pick rows f false i h = let bad : ⊥ = cc in absurd bad

      go : (r : Option (List Instruction)) → rows_of hir.instructions block.instructions ≡ r →
          option_and_then with_ids (option_map (filled block) r) ≡ Some whole → HasIds hir block
      go None f h = let bad : ⊥ = cc in absurd bad
      go (Some rows) f h = pick rows f (has_all_ids (filled block rows)) refl h

  -- the ids of a block that may be used are there
  pub usable_ids : (block : BasicBlock) (whole : Block) → basic_block hir key ≡ Some block
      → usable_block hir key ≡ Some whole → HasIds hir block
  unfolding usable_block
  usable_ids block whole e u =
      let at_block : option_and_then with_ids (option_and_then (with_rows hir) (under_own_number key block))
      ≡ Some whole =
      ap (λ b. option_and_then with_ids (option_and_then (with_rows hir) (option_and_then (under_own_number key) b)))
      (sym e) ∙ u in
      go (same_id block.id key) refl at_block
    where
      go : (b : Bool) → same_id block.id key ≡ b → option_and_then with_ids
          (option_and_then (with_rows hir) (if b then Some block else None)) ≡ Some whole → HasIds hir block
      go true n h = ids_of block whole h
      go false n h = let bad : ⊥ = cc in absurd bad

  -- a block with its rows has the terminal of its basic block
  terminal_of : (block : BasicBlock) (whole : Block) → with_rows hir block ≡ Some whole
      → whole.terminal ≡ block.terminal
  terminal_of block whole e = go (rows_of hir.instructions block.instructions) e
    where
      go : (r : Option (List Instruction)) → option_map (filled block) r ≡ Some whole
          → whole.terminal ≡ block.terminal
      go None h = let bad : ⊥ = cc in absurd bad
      go (Some rows) h = let same : filled block rows ≡ whole = cc in ap (λ (z : Block). z.terminal) (sym same)

  pub found_terminal : (block : BasicBlock) (whole : Block) → basic_block hir key ≡ Some block
      → block_at hir key ≡ Some whole → whole.terminal ≡ block.terminal
  unfolding block_at
  found_terminal block whole e b = terminal_of block whole (ap (option_and_then (with_rows hir)) (sym e) ∙ b)

  pub found_block : (block : BasicBlock) (rows : List Instruction) → basic_block hir key ≡ Some block
      → rows_of hir.instructions block.instructions ≡ Some rows →
      block_at hir key ≡ Some (filled block rows)
  unfolding block_at
  found_block block rows e f = ap (option_and_then (with_rows hir)) e ∙ ap (option_map (filled block)) f

  -- a block whose terminal has no id may not be used
  pub unusable_unset : (block : BasicBlock) → basic_block hir key ≡ Some block
      → is_unset (evaluation_order block.terminal) ≡ true → usable_block hir key ≡ None
  unusable_unset block e unset = go (usable_block hir key) refl
    where
      go : (found : Option Block) → usable_block hir key ≡ found → found ≡ None
      go None u = refl
      go (Some whole) u =
          let same = ap (λ t. is_unset (evaluation_order t))
          (found_terminal block whole e (usable_block-at hir key whole u)) in
          let set = (usable_block-set hir key whole u).terminal in
          let bad : ⊥ = cc in absurd bad
