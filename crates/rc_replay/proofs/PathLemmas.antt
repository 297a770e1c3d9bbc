-- What is ahead of a path that begins in a closed set of positions, and that runs are paths.
use Rattle.std.proofs.Common.{◌≡◌, ◌∙◌, ◌<◌, ◌++◌, ℕ, true, List, [], ◌∷◌, None, Option, Some, refl, sym, ap, subst}
use Rattle.std.proofs.Common.{inl, inr, arith, length, min, slice_get}
use Rattle.std.specs.Option.{option_map}
use Rattle.std.proofs.lemmas.Option.{slice_get_within}
use Rattle.rc_replay.specs.declared.positions.Position.{Position as LaidPosition}
use Rattle.rc_replay.specs.inside.Closing.{has, IsNextOf, MayEndAmong, LeadInto}
use Rattle.rc_replay.specs.inside.Paths.{Leads, Path, Steps, ends, goes}
use Rattle.rc_replay.specs.inside.Paths as paths
use Rattle.rc_replay.specs.inside.Positions as positions
use Rattle.rc_replay.specs.inside.Positions.{Ends, Follows, FollowsAt, Position, Table, arrives, enters, position_of, table_of}
use Rattle.rc_runs.specs.Event.{Event, End}

-- there is one event at most
data AtMostOne : List Event → Type 0 where
  none : AtMostOne []
  one : {event : Event} → AtMostOne (event ∷ [])

leads_at_most_one : {position : Position} {events : List Event} {next : ℕ} → Leads position events next → AtMostOne events
leads_at_most_one paths.passes = none
leads_at_most_one paths.computes = one
leads_at_most_one paths.holds = one
leads_at_most_one paths.fails = one
leads_at_most_one (paths.chooses choice) = one
leads_at_most_one paths.goes_on = none
leads_at_most_one paths.throws = one

module _ (table : List LaidPosition) (here : List ℕ) where
  -- the run may end at one of the positions, or its first event leads on from one of them
  pub data Ahead : List Event → End → Type 0 where
    ended : {end : End} → MayEndAmong table here end → Ahead [] end
    went : {event : Event} {events : List Event} {end : End} {to : ℕ} → IsNextOf table here (event ∷ []) to
        → Path table to events end → Ahead (event ∷ events) end

  module _ (closed : LeadInto table here here) where
    ahead_by : {step : List Event} (at to : ℕ) (events all : List Event) (end : End) → AtMostOne step
        → has here at ≡ true → Steps table at step to → Path table to events end → all ≡ step ++ events
        → (has here to ≡ true → Ahead events end) → Ahead all end
    ahead_by at to events all end none there step path same rest =
        subst (λ l. Ahead l end) (sym same) (rest (closed at to there step))
    ahead_by at to events all end one there step path same rest =
        subst (λ l. Ahead l end) (sym same) (went (record { at = at; among = there; step = step }) path)

    -- what is ahead of a path from one of the positions of a closed set
    pub ahead : {at : ℕ} {events : List Event} {end : End} → has here at ≡ true → Path table at events end → Ahead events end
    ahead {at = at} there (ends last) = ended (record { at = at; among = there; ends = last })
    ahead {at = at} {events = all} {end = end} there (goes {to = to} {events = events} step path same) =
        ahead_by at to events all end (leads_at_most_one step.leads.1) there step path same (λ next. ahead next path)

-- a move, and the run from where it leads
follows_move : {table : Table} {position : Position} {step events : List Event} {next : ℕ} {end : End}
    → Leads position step next → FollowsAt table next events end → Follows table position (step ++ events) end
follows_move paths.passes rest = positions.passes rest
follows_move paths.computes rest = positions.computes rest
follows_move paths.holds rest = positions.test_holds rest
follows_move paths.fails rest = positions.test_fails rest
follows_move (paths.chooses choice) rest = positions.chooses choice rest
follows_move paths.goes_on rest = positions.goes_on rest
follows_move paths.throws rest = positions.throws rest

module _ (table : List LaidPosition) where
  -- a number with a position is itself
  has_place : (number : ℕ) (position : Position) → table_of table number ≡ Some position → number < length table
  has_place number position known = by (slice_get table number) refl known
    where
      by : (found : Option LaidPosition) → slice_get table number ≡ found → option_map position_of found ≡ Some position
          → number < length table
      by None is known = let bad : ⊥ = cc in absurd bad
      by (Some laid) is known = slice_get_within table number laid is

  own_number : (at number : ℕ) (position : Position) → table_of table at ≡ Some position → at ≡ min number (length table)
      → number ≡ at
  own_number at number position known nearest = let place = has_place at position known in omega (arith, place, nearest)

  move_path : {at next : ℕ} {position : Position} {step events : List Event} {end : End}
      → table_of table at ≡ Some position → Leads position step next → Path table (min next (length table)) events end
      → Path table at (step ++ events) end
  move_path {next = next} {position = position} known leads path =
      goes (record { position = position; known = known; leads = (next, leads, refl) }) path refl

  mutual
    position_path : {at : ℕ} {position : Position} {events : List Event} {end : End} → table_of table at ≡ Some position
        → Follows (table_of table) position events end → Path table at events end
    position_path known positions.rests = ends (inl refl)
    position_path known (positions.passes rest) = move_path known paths.passes (run_path rest)
    position_path known (positions.computes rest) = move_path known paths.computes (run_path rest)
    position_path known (positions.test_holds rest) = move_path known paths.holds (run_path rest)
    position_path known (positions.test_fails rest) = move_path known paths.fails (run_path rest)
    position_path known (positions.chooses choice rest) = move_path known (paths.chooses choice) (run_path rest)
    position_path known (positions.goes_on rest) = move_path known paths.goes_on (run_path rest)
    position_path known (positions.throws rest) = move_path known paths.throws (run_path rest)
    position_path known positions.ends = ends (inr known)

    -- each run from a number on has a path
    pub run_path : {number : ℕ} {events : List Event} {end : End} → FollowsAt (table_of table) number events end
        → Path table (min number (length table)) events end
    run_path arrives = ends (inl refl)
    run_path {events = events} {end = end} (enters {number = number} {position = position} known follows) =
        subst (λ n. Path table n events end) (place number position known) (position_path known follows)
      where
        place : (number : ℕ) (position : Position) → table_of table number ≡ Some position
            → number ≡ min number (length table)
        place number position known = let inside = has_place number position known in omega (arith, inside)

  -- each path is a run
  pub path_run : {at : ℕ} {events : List Event} {end : End} (number : ℕ) → at ≡ min number (length table)
      → Path table at events end → FollowsAt (table_of table) number events end
  path_run number nearest (ends {end = end} (inl stops)) =
      subst (FollowsAt (table_of table) number []) (sym stops) arrives
  path_run number nearest (ends {at = at} {end = end} (inr known)) =
      enters (ap (table_of table) (own_number at number (Ends end) known nearest) ∙ known) positions.ends
  path_run number nearest (goes {at = at} {end = end} step path same) =
      subst (λ l. FollowsAt (table_of table) number l end) (sym same)
      (enters (ap (table_of table) (own_number at number step.position step.known nearest) ∙ step.known)
      (follows_move step.leads.1 (path_run step.leads.0 step.leads.2 path)))
