-- Scopes that have an early return already.
use Rattle.std.specs.Prelude.{◌≡◌, ℕ, Bool, Option, None, is_some, position}
use Rattle.rc_hir.specs.Model.{ReactiveScope, Environment}

-- the scope has an early return already
abbrev pub returns_early : ReactiveScope → Bool
returns_early scope = is_some scope.early_return_value

-- the number of the lowest scope that has an early return already
abbrev pub first_early_return : Environment → Option ℕ
first_early_return env = position returns_early env.scopes

-- no scope has an early return
abbrev pub NoEarlyReturnSet : Environment → Type 0
NoEarlyReturnSet env = first_early_return env ≡ None
