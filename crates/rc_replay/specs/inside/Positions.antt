-- Positions of a graph or of a body, and what follows each one.
use Rattle.std.specs.Prelude.{◌≡◌, ℕ, true, false, List, [], ◌∷◌, Option, Some, slice_get}
use Rattle.std.specs.Option.{option_map}
use Rattle.rc_hir.specs.Model.{Place, InstructionValue}
use Rattle.rc_runs.specs.Event.{Event, Did, Arm, Chose, Threw, End, Open}
use Rattle.rc_replay.specs.GivenRun.{run_end}
use Rattle.rc_replay.specs.declared.positions.Position.{Position as LaidPosition}
use Rattle.rc_replay.specs.declared.positions.Position.TheVariants as laid

-- a choice of a switch: a test, and the position where the run goes on
abbrev pub Choice : Type 0
Choice = Option Place × ℕ

-- what a run does at a position, with the positions where it goes on
pub data Position : Type 0 where
  Passes : (next : ℕ) → Position
  Computes : (value : InstructionValue) (next : ℕ) → Position
  Tests : (holds fails : ℕ) → Position
  Chooses : (choices : List Choice) → Position
  -- a row has run, and may throw
  Attempts : (next handler : ℕ) → Position
  Ends : (end : End) → Position
  -- nothing follows
  Stops : Position

-- the choice is among those of the switch
pub data IsChoice : List Choice → Option Place → ℕ → Type 0 where
  first : {test next choices : _} → IsChoice ((test, next) ∷ choices) test next
  later : {choice choices test next : _} → IsChoice choices test next → IsChoice (choice ∷ choices) test next

-- the position that each number has, if there is one
abbrev pub Table : Type 0
Table = ℕ → Option Position

-- the position that the program's own represents
abbrev pub position_of : LaidPosition → Position
position_of (laid.Passes next) = Passes next
position_of (laid.Computes value next) = Computes value.now next
position_of (laid.Tests holds fails) = Tests holds fails
position_of (laid.Chooses choices) = Chooses choices
position_of (laid.Attempts next handler) = Attempts next handler
position_of (laid.Ends end) = Ends (run_end end)
position_of laid.Stops = Stops

-- the table that a list of the program's own positions represents
abbrev pub table_of : List LaidPosition → Table
table_of positions number = option_map position_of (slice_get positions number)

module _ (table : Table) where
  mutual
    -- a run from a position on
    pub data Follows : Position → List Event → End → Type 0 where
      -- each prefix of a run is a run
      rests : {position : _} → Follows position [] Open
      passes : {next events end : _} → FollowsAt next events end → Follows (Passes next) events end
      computes : {value next events end : _} → FollowsAt next events end →
          Follows (Computes value next) (Did value ∷ events) end
      test_holds : {holds fails events end : _} → FollowsAt holds events end →
          Follows (Tests holds fails) (Arm true ∷ events) end
      test_fails : {holds fails events end : _} → FollowsAt fails events end →
          Follows (Tests holds fails) (Arm false ∷ events) end
      chooses : {choices test next events end : _} → IsChoice choices test next → FollowsAt next events end →
          Follows (Chooses choices) (Chose test ∷ events) end
      goes_on : {next handler events end : _} → FollowsAt next events end → Follows (Attempts next handler) events end
      throws : {next handler events end : _} → FollowsAt handler events end →
          Follows (Attempts next handler) (Threw ∷ events) end
      ends : {end : _} → Follows (Ends end) [] end

    -- a run from the position with a number on; it may stop in front of it, and the number need not have one
    pub data FollowsAt : ℕ → List Event → End → Type 0 where
      arrives : {number : _} → FollowsAt number [] Open
      enters : {number position events end : _} → table number ≡ Some position → Follows position events end →
          FollowsAt number events end
