-- The moves from one position to another, and the paths along them. All numbers without a position count as one, which
-- is the length of the table.
use Rattle.std.specs.Prelude.{◌≡◌, ◌⊎◌, ◌++◌, ℕ, true, false, List, [], ◌∷◌, Some, length, min}
use Rattle.rc_replay.specs.declared.positions.Position.{Position as LaidPosition}
use Rattle.rc_replay.specs.declared.positions.Shown.{Shown}
use Rattle.rc_replay.specs.declared.positions.Shown.TheVariants as moves
use Rattle.rc_replay.specs.inside.Positions.{IsChoice, Position, Passes, Computes, Tests, Chooses, Attempts, Ends, table_of}
use Rattle.rc_runs.specs.Event.{Event, Did, Arm, Chose, Threw, End, Open}

-- the events that a move shows: none, or one
abbrev pub shown : Shown → List Event
shown moves.Nothing = []
shown (moves.Did value) = Did value.now ∷ []
shown (moves.Arm taken) = Arm taken ∷ []
shown (moves.Chose test) = Chose test ∷ []
shown moves.Threw = Threw ∷ []

-- a move from a position, with its events, to the position with a number
pub data Leads : Position → List Event → ℕ → Type 0 where
  passes : {next : _} → Leads (Passes next) [] next
  computes : {value next : _} → Leads (Computes value next) (Did value ∷ []) next
  holds : {when otherwise : _} → Leads (Tests when otherwise) (Arm true ∷ []) when
  fails : {when otherwise : _} → Leads (Tests when otherwise) (Arm false ∷ []) otherwise
  chooses : {choices test next : _} → IsChoice choices test next → Leads (Chooses choices) (Chose test ∷ []) next
  goes_on : {next handler : _} → Leads (Attempts next handler) [] next
  throws : {next handler : _} → Leads (Attempts next handler) (Threw ∷ []) handler

-- a move with the wanted events leads there, where all numbers from the last one on count as that one
abbrev pub LeadsWithin : Position → ℕ → List Event → ℕ → Type 0
LeadsWithin position last wanted to = (next : ℕ) × Leads position wanted next × (to ≡ min next last)

-- the same of one move, which shows these events and leads to that number
abbrev pub ShowsWithin : List Event → ℕ → ℕ → List Event → ℕ → Type 0
ShowsWithin events next last wanted to = (events ≡ wanted) × (to ≡ min next last)

-- a run may end at the position with this end
abbrev pub MayEnd : Position → End → Type 0
MayEnd position end = (end ≡ Open) ⊎ (position ≡ Ends end)

-- the position with a number has a move with these events, which leads there
pub record Steps (table : List LaidPosition) (at : ℕ) (events : List Event) (to : ℕ) : Type 0 where
  pub position : Position
  pub known : table_of table at ≡ Some position
  pub leads : LeadsWithin position (length table) events to

-- a run may end with this end at the position with a number
abbrev pub EndsAt : List LaidPosition → ℕ → End → Type 0
EndsAt table at end = (end ≡ Open) ⊎ (table_of table at ≡ Some (Ends end))

-- a path from the position with a number on: along moves with these events together, up to where a run may end with
-- this end
pub data Path (table : List LaidPosition) : ℕ → List Event → End → Type 0 where
  ends : {at end : _} → EndsAt table at end → Path table at [] end
  goes : {at to step events all end : _} → Steps table at step to → Path table to events end → all ≡ step ++ events
      → Path table at all end
