-- What an environment needs before entries of early returns are written into it, and that its numbers stay in their
-- tables, even after an error.
use Rattle.std.specs.Prelude.{◌≡◌, ◌+◌, ◌*◌, ◌<◌, ◌^◌, ℕ, List, [], ◌∷◌, length}
use Rattle.rc_early.specs.Entries.{with_early_return}
use Rattle.rc_early.specs.declared.early_return.EarlyReturn.{EarlyReturn}
use Rattle.rc_hir.specs.KeptNumbers.{KeepsNumbers}
use Rattle.rc_hir.specs.Names.{EnvironmentInTables}
use Rattle.rc_hir.specs.Model.{Environment}

-- no table is shorter, no function changes, and numbers that are in their tables are so again
pub record Grows (before after : Environment) : Type 0 where
  pub numbers : KeepsNumbers before after
  pub functions : after.functions ≡ before.functions
  pub environment : EnvironmentInTables before → EnvironmentInTables after

-- that many identifiers with types of their own can be added
abbrev pub HasPlaces : Environment → ℕ → Type 0
HasPlaces env count = (length env.identifiers + count < 2 ^ 32) × (length env.types + count < 2 ^ 32)

-- each early return's variable has the next free number of the environment to which it is added
abbrev pub AreNumbered : Environment → List EarlyReturn → Type 0
AreNumbered env [] = Unit {0}
AreNumbered env (early ∷ rest) =
    (early.entry.value.0 ≡ length env.identifiers) × AreNumbered (with_early_return early env) rest

-- there is room for the entries of that many early returns
pub record Fits (env : Environment) (count : ℕ) : Type 0 where
  pub identifiers : length env.identifiers + 5 * count < 2 ^ 32
  pub types : length env.types + 5 * count < 2 ^ 32
  pub blocks : env.next_block + count < 2 ^ 32
