-- The numbers of a block and of its rows are in their tables if those of the graph are; none of them is a row's.
use Rattle.std.proofs.Common.{◌≡◌, ◌⊎◌, inl, inr, ℕ, ◌<◌, ◌≤◌, List, [], ◌∷◌, ◌++◌, length, get_or, Option, None, Some}
use Rattle.std.proofs.Common.{option_and_then, option_map, slice_get, refl, sym, subst}
use Rattle.std.specs.List.{All, flat_map}
use Rattle.std.proofs.lemmas.List.Elements.{All-append, All-nil}
use Rattle.std.proofs.lemmas.Map.Views.{Contains-from_lookup}
use Rattle.std.proofs.lemmas.Option.{slice_get_cases}
use Rattle.rc_names.specs.Numbers.{BlockId, InstructionId, ScopeId}
use Rattle.rc_names.proofs.NumbersLemmas.{same_id-eq}
use Rattle.rc_hir.specs.GraphNames.{Name, block_names, case_names, instruction_names, parameter_names, place_names}
use Rattle.rc_hir.specs.GraphNames.{row_name, terminal_names, under_key}
use Rattle.rc_hir.specs.PartNames.{names_if, scope_name}
use Rattle.rc_hir.specs.ValueNames.{value_names}
use Rattle.rc_hir.specs.Names.{FunctionInTables, IsInTable, lengths}
use Rattle.rc_hir.specs.Model.{Environment, BasicBlock, HirFunction, Instruction, Place, Case}
use Rattle.rc_runs.specs.Graph.{Block, basic_block, block_at, rows_of, usable_block, with_rows}
use Rattle.rc_runs.proofs.AllLemmas.{All-left, All-right, All-flat_map}
use Rattle.rc_runs.proofs.GraphLemmas.{usable_block-at}
use Rattle.rc_runs.proofs.NoRowNamed.{IsNoRow, NoRows, all_in_environment, place_no_row, scope_no_row, value_no_row}

module _ (env : Environment) where
  -- the number is in its table
  abbrev pub InTable : Name → Type 0
  InTable = IsInTable (lengths env 0)

  abbrev pub Held : List Name → Type 0
  Held names = All InTable names

  -- equal lists of numbers
  pub by_same : (names others : List Name) → names ≡ others → Held others → Held names
  by_same names others e held = subst Held (sym e) held

  -- the numbers of each of these rows
  abbrev pub RowsHeld : List Instruction → Type 0
  RowsHeld [] = Unit {0}
  RowsHeld (row ∷ rows) = Held (instruction_names row) × RowsHeld rows

module _ (hir : HirFunction) (env : Environment) where
  -- the same, where the rows of the graph are a table too
  abbrev pub InGraph : Name → Type 0
  InGraph = IsInTable (lengths env (length hir.instructions))

  abbrev pub HeldByGraph : List Name → Type 0
  HeldByGraph names = All InGraph names

  -- numbers that are no rows'
  rowless : (names : List Name) → NoRows names → HeldByGraph names → Held env names
  rowless names = all_in_environment env (length hir.instructions) names

  pub place_held : (place : Place) → HeldByGraph (place_names place) → Held env (place_names place)
  place_held place = rowless (place_names place) (place_no_row place)

  pub option_place_held : (place : Option Place) → HeldByGraph (names_if place_names place) →
      Held env (names_if place_names place)
  option_place_held None held = All-nil (InTable env)
  option_place_held (Some place) held = place_held place held

  pub case_held : (case : Case) → HeldByGraph (case_names case) → Held env (case_names case)
  case_held case held = option_place_held case.test held

  pub scope_held : (of : ScopeId) → HeldByGraph (scope_name of) → Held env (scope_name of)
  scope_held of = rowless (scope_name of) (scope_no_row of)

  instruction_held : (row : Instruction) → HeldByGraph (instruction_names row) → Held env (instruction_names row)
  instruction_held row =
      rowless (instruction_names row)
      (All-append IsNoRow (place_names row.lvalue) (value_names row.value) (place_no_row row.lvalue)
      (value_no_row row.value))

  module _ (named : FunctionInTables env hir) where
    -- the numbers after those of the parameters and the context
    blocks_and_rows : HeldByGraph
        (flat_map (under_key block_names) hir.body.blocks ++ flat_map instruction_names hir.instructions)
    blocks_and_rows =
        All-right InGraph (flat_map place_names hir.context) _
        (All-right InGraph (flat_map parameter_names hir.params) _ named)

    row_held : (place : ℕ) (row : Instruction) → slice_get hir.instructions place ≡ Some row →
        Held env (instruction_names row)
    row_held place row e = by (slice_get_cases hir.instructions place).1
      where
        by : ((x : Instruction) × (place < length hir.instructions) × (slice_get hir.instructions place ≡ Some x)
            × (get_or hir.instructions place x ≡ x)) ⊎ ((length hir.instructions ≤ place)
            × (slice_get hir.instructions place ≡ None))
            → Held env (instruction_names row)
        by (inl found) =
            let same : found.0 ≡ row = cc in
            subst (λ x. Held env (instruction_names x)) same
            (instruction_held found.0
            (All-flat_map InGraph instruction_names hir.instructions
            (All-right InGraph (flat_map (under_key block_names) hir.body.blocks) _ blocks_and_rows)
            place found.0 found.1 found.3))
        by (inr past) = absurd (let no : ⊥ = cc in no)

    found_rows : (numbers : List InstructionId) (rows : List Instruction) →
        rows_of hir.instructions numbers ≡ Some rows → RowsHeld env rows
    found_rows [] rows e = subst (RowsHeld env) (let same : [] ≡ rows = cc in same) tt
    found_rows (number ∷ numbers) rows e =
        go (slice_get hir.instructions number.0) (rows_of hir.instructions numbers) refl refl e (found_rows numbers)
      where
        go : (found : Option Instruction) (others : Option (List Instruction))
            → slice_get hir.instructions number.0 ≡ found → rows_of hir.instructions numbers ≡ others
            → option_and_then (λ row. option_map (λ rows. row ∷ rows) others) found ≡ Some rows
            → ((more : List Instruction) → rows_of hir.instructions numbers ≡ Some more → RowsHeld env more)
            → RowsHeld env rows
        go None others e f w later = absurd (let no : ⊥ = cc in no)
        go (Some row) None e f w later = absurd (let no : ⊥ = cc in no)
        go (Some row) (Some more) e f w later =
            subst (RowsHeld env) (let same : row ∷ more ≡ rows = cc in same) (row_held number.0 row e, later more f)

    -- the numbers of a block with its rows
    abbrev pub BlockHeld : Block → Type 0
    BlockHeld b = RowsHeld env b.rows × HeldByGraph (terminal_names b.terminal)

    block_held : (key : BlockId) (b : Block) → block_at hir key ≡ Some b → BlockHeld b
    unfolding block_at
    block_held key b e = go (basic_block hir key) refl e
      where
        filled : (basic : BasicBlock) → basic_block hir key ≡ Some basic → (rows : Option (List Instruction))
            → rows_of hir.instructions basic.instructions ≡ rows
            → option_map (λ (r : List Instruction). record { rows = r; terminal = basic.terminal }) rows ≡ Some b
            → BlockHeld b
        filled basic found None f w = absurd (let no : ⊥ = cc in no)
        filled basic found (Some rows) f w =
            let held = Contains-from_lookup same_id-eq key basic hir.body.blocks found in
            let here : HeldByGraph (flat_map row_name basic.instructions ++ terminal_names basic.terminal) =
            All-flat_map InGraph (under_key block_names) hir.body.blocks
            (All-left InGraph (flat_map (under_key block_names) hir.body.blocks) _ blocks_and_rows)
            held.0 (key, basic) held.1 held.2
            in
            let whole : Block = record { rows = rows; terminal = basic.terminal } in
            let same : whole ≡ b = cc in
            subst BlockHeld same (
              found_rows basic.instructions rows f,
              All-right InGraph (flat_map row_name basic.instructions) (terminal_names basic.terminal) here,
            )

        go : (found : Option BasicBlock) → basic_block hir key ≡ found → option_and_then (with_rows hir) found ≡ Some b
            → BlockHeld b
        go None found e = absurd (let no : ⊥ = cc in no)
        go (Some basic) found e = filled basic found (rows_of hir.instructions basic.instructions) refl e

    pub usable_block_held : (key : BlockId) (b : Block) → usable_block hir key ≡ Some b → BlockHeld b
    usable_block_held key b usable = block_held key b (usable_block-at hir key b usable)
