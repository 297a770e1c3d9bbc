-- How a graph is laid out as a table of positions.
use Rattle.std.specs.Prelude.{◌≡◌, ◌+◌, ◌++◌, ℕ, List, [], ◌∷◌, Option, None, Some, length, map}
use Rattle.std.specs.Prelude.{if◌then◌else◌}
use Rattle.std.specs.List.{position_or_len}
use Rattle.std.specs.Map.{keys_of}
use Rattle.std.specs.Option.{option_to_list}
use Rattle.rc_names.specs.Numbers.{BlockId, InstructionId, same_id}
use Rattle.rc_hir.specs.Model.{BasicBlock, Case, Environment, HirFunction, Instruction, Terminal}
use Rattle.rc_hir.specs.Successors as successors
use Rattle.rc_hir.specs.Successors.{Moves, block_past}
use Rattle.rc_hir.specs.declared.terminal.Terminal.TheVariants as terminals
use Rattle.rc_replay.specs.declared.positions.Position.{Position as LaidPosition}
use Rattle.rc_replay.specs.inside.Positions.{Choice, Position, Passes, Computes, Tests, Chooses, Attempts, Ends, Stops, Table}
use Rattle.rc_replay.specs.inside.Positions.{position_of, table_of}
use Rattle.rc_runs.specs.Event.{Returned, Thrown}
use Rattle.rc_runs.specs.Graph.{Block, block_at, rows_of, with_rows}
use Rattle.rc_runs.specs.Silent.{is_silent}

-- the number of a block's position: its index among the blocks, or their count where the number is no key
abbrev pub number_of : HirFunction → BlockId → ℕ
number_of hir key = position_or_len (same_id key) (keys_of hir.body.blocks)

-- the choices of a switch: those of its cases, and then the way past all of them, if none is the default
abbrev pub case_choices : HirFunction → List Case → List Choice
case_choices hir cases = map (λ case. (case.test, number_of hir case.block)) cases

abbrev pub past_choices : HirFunction → List Case → BlockId → List Choice
past_choices hir cases fallthrough =
    map (λ key. (None, number_of hir key)) (option_to_list (block_past cases fallthrough))

abbrev pub all_choices : HirFunction → List Case → BlockId → List Choice
all_choices hir cases fallthrough = case_choices hir cases ++ past_choices hir cases fallthrough

-- the position in front of a terminal that leads on in this form
abbrev pub form_position : HirFunction → Moves → Position
form_position hir successors.Ends = Stops
form_position hir (successors.Straight block) = Passes (number_of hir block)
form_position hir (successors.ByTest consequent alternate) = Tests (number_of hir consequent) (number_of hir alternate)
form_position hir (successors.ByCase cases fallthrough) = Chooses (all_choices hir cases fallthrough)
form_position hir (successors.MayThrow continuation None) = Passes (number_of hir continuation)
form_position hir (successors.MayThrow continuation (Some handler)) =
    Attempts (number_of hir continuation) (number_of hir handler)

-- the position in front of a terminal
abbrev pub terminal_position : HirFunction → Terminal → Position
terminal_position hir (terminals.Return value id span) = Ends (Returned value)
terminal_position hir (terminals.Throw value id span) = Ends (Thrown value)
terminal_position hir terminal = form_position hir (successors.moves terminal)

-- the position in front of a row
abbrev pub row_position : Environment → Instruction → ℕ → Position
row_position env row next = if is_silent env row.id row.value then Passes next else Computes row.value next

module _ (hir : HirFunction) (env : Environment) (table : Table) where
  -- the rows and then the terminal begin at the position with a number
  pub data BeginsAt : ℕ → List Instruction → Terminal → Type 0 where
    at_terminal : {at : ℕ} {terminal : Terminal} → table at ≡ Some (terminal_position hir terminal)
        → BeginsAt at [] terminal
    at_row : {at next : ℕ} {row : Instruction} {rows : List Instruction} {terminal : Terminal}
        → table at ≡ Some (row_position env row next) → BeginsAt next rows terminal → BeginsAt at (row ∷ rows) terminal

  -- the position leads on to the block's rows; where there is no block with its rows, it leads no further
  abbrev pub IsEntry : Option Block → Position → Type 0
  IsEntry None position = position ≡ Stops
  IsEntry (Some block) position =
      (next : ℕ) × (position ≡ Passes next) × BeginsAt next block.rows block.terminal

  -- the table has a position for each block number
  abbrev pub IsGraphTable : Type 0
  IsGraphTable = (key : BlockId) → (position : Position) × (table (number_of hir key) ≡ Some position)
      × IsEntry (block_at hir key) position

-- the number of the first position of a row or a terminal
abbrev pub row_start : HirFunction → ℕ
row_start hir = length hir.body.blocks + 1

-- the table has these positions from a number on
abbrev pub HasFrom : ℕ → List LaidPosition → Table → Type 0
HasFrom start rows table = (i : ℕ) (position : Position) → table_of rows i ≡ Some position
    → table (start + i) ≡ Some position

-- more positions were added
abbrev pub IsGrown : ℕ → List LaidPosition → List LaidPosition → Type 0
IsGrown start old new = (table : Table) → HasFrom start new table → HasFrom start old table

-- the block is laid out in each table that has these positions of rows and terminals
abbrev pub IsLaidOut : HirFunction → Environment → List LaidPosition → Position → BasicBlock → Type 0
IsLaidOut hir env rows position block = (table : Table) → HasFrom (row_start hir) rows table
    → IsEntry hir env table (with_rows hir block) position

-- the last of a block's rows, and its terminal, are laid out from a position on, with their positions added
pub record AreLaid (hir : HirFunction) (env : Environment) (terminal : Terminal) (old new : List LaidPosition)
    (numbers : List InstructionId) (next : ℕ) : Type 0 where
  pub grown : IsGrown (row_start hir) old new
  pub rows : List Instruction
  pub known : rows_of hir.instructions numbers ≡ Some rows
  pub begin : (table : Table) → HasFrom (row_start hir) new table → BeginsAt hir env table next rows terminal

module _ (hir : HirFunction) (env : Environment) (rows : List LaidPosition) where
  -- these positions are those of the blocks, in order
  pub data AreEntries : List LaidPosition → List BasicBlock → Type 0 where
    no_entry : AreEntries [] []
    one_entry : {entry : LaidPosition} {entries : List LaidPosition} {block : BasicBlock} {blocks : List BasicBlock}
        → IsLaidOut hir env rows (position_of entry) block → AreEntries entries blocks
        → AreEntries (entry ∷ entries) (block ∷ blocks)
