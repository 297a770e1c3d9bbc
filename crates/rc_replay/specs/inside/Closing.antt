-- Sets of positions: what is added to one, and how far the closing of one has come.
use Rattle.std.specs.Prelude.{◌≡◌, ◌≤◌, ◌⊎◌, ◌++◌, ℕ, Bool, true, List, [], length, nat_eq, take}
use Rattle.std.specs.List.{list_any}
use Rattle.rc_replay.specs.declared.positions.Position.{Position}
use Rattle.rc_replay.specs.inside.Paths.{Steps, EndsAt, Path}
use Rattle.rc_runs.specs.Event.{Event, End}

-- the number is one of these
abbrev pub has : List ℕ → ℕ → Bool
has here at = list_any (nat_eq at) here

-- the new set is the old one with exactly those numbers added that have the property
pub record Adds (property : ℕ → Type 0) (old new : List ℕ) : Type 0 where
  pub more : List ℕ
  pub grown : new ≡ old ++ more
  pub only : (at : ℕ) → has new at ≡ true → (has old at ≡ true) ⊎ property at
  pub all : (at : ℕ) → property at → has new at ≡ true

module _ (table : List Position) where
  -- no number is above the one that represents those without a position
  abbrev pub AreWithin : List ℕ → Type 0
  AreWithin here = (at : ℕ) → has here at ≡ true → at ≤ length table

  -- a move with these events leads there from one of the positions
  pub record IsNextOf (here : List ℕ) (events : List Event) (to : ℕ) : Type 0 where
    pub at : ℕ
    pub among : has here at ≡ true
    pub step : Steps table at events to

  -- a run may end at one of the positions with this end
  pub record MayEndAmong (here : List ℕ) (end : End) : Type 0 where
    pub at : ℕ
    pub among : has here at ≡ true
    pub ends : EndsAt table at end

  -- a path with these events and this end begins at one of the positions
  pub record Begins (here : List ℕ) (events : List Event) (end : End) : Type 0 where
    pub at : ℕ
    pub among : has here at ≡ true
    pub path : Path table at events end

  -- moves without an event from these positions lead to those that are there
  abbrev pub LeadInto : List ℕ → List ℕ → Type 0
  LeadInto looked here = (at to : ℕ) → has looked at ≡ true → Steps table at [] to → has here to ≡ true

  -- The closing of a set has come so far: no path begins at what was added that doesn't begin at the old set, and the
  -- positions that were looked at lead to those that are there.
  pub record Closing (old here : List ℕ) (looked : ℕ) : Type 0 where
    pub kept : (at : ℕ) → has old at ≡ true → has here at ≡ true
    pub within : AreWithin here
    pub back : (events : List Event) (end : End) → Begins here events end → Begins old events end
    pub led : LeadInto (take looked here) here
    pub bound : looked ≤ length here

  -- the set is closed
  pub record Closes (old here : List ℕ) : Type 0 where
    pub kept : (at : ℕ) → has old at ≡ true → has here at ≡ true
    pub back : (events : List Event) (end : End) → Begins here events end → Begins old events end
    pub led : LeadInto here here

  -- The events so far lead to these positions: the whole run is one from the first position on exactly where the rest
  -- is one from these.
  pub record Following (start : ℕ) (all : List Event) (here : List ℕ) (rest : List Event) (end : End) : Type 0 where
    pub within : AreWithin here
    pub forth : Path table start all end → Begins here rest end
    pub back : Begins here rest end → Path table start all end
