-- What a call that may write an environment leaves of its numbers, whatever it returns.
use Rattle.std.specs.Prelude.{◌≤◌, length}
use Rattle.rc_hir.specs.Model.{Environment}

-- no table is shorter than before, so that each number that was in its table still is, and no block number is new again
pub record KeepsNumbers (before after : Environment) : Type 0 where
  pub identifiers : length before.identifiers ≤ length after.identifiers
  pub types : length before.types ≤ length after.types
  pub scopes : length before.scopes ≤ length after.scopes
  pub functions : length before.functions ≤ length after.functions
  pub shapes : length before.shapes ≤ length after.shapes
  pub next_block : before.next_block ≤ after.next_block
