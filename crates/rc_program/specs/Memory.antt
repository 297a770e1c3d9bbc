-- The states of the devices in memory, as contracts see them.
use Rattle.std.specs.Prelude.{ℕ, List}

-- the bytes that are left, the numbers of calls that were made and that failed, and the numbers of the calls that fail
pub record SourceState : Type 0 where
  pub left : List ℕ
  pub calls : ℕ
  pub faults : ℕ
  pub failing : List ℕ

-- the bytes that were written, the room for them, the most bytes that one call takes, the numbers of calls that were
-- made and that failed, and the numbers of the calls that fail
pub record SinkState : Type 0 where
  pub written : List ℕ
  pub room : ℕ
  pub step : ℕ
  pub calls : ℕ
  pub faults : ℕ
  pub failing : List ℕ
