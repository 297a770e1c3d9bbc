-- Whether enough numbers are left for those that early returns may need.
use Rattle.std.specs.Prelude.{◌+◌, ◌*◌, ◌<◌, ◌≤◌, ℕ, Bool, true, false, length, All, count_by}
use Rattle.rc_hir.specs.Model.{Terminal, HirFunction, Environment}
use Rattle.rc_hir.specs.declared.terminal.Terminal.TheVariants as terminals

-- the terminal opens a scope that is kept so far
abbrev pub is_scope : Terminal → Bool
is_scope (terminals.Scope fallthrough block scope id span) = true
is_scope _ = false

-- the number of scope blocks that the graph spells
abbrev pub scope_count : HirFunction → ℕ
scope_count hir = count_by (λ entry. is_scope entry.1.terminal) hir.body.blocks

-- enough numbers are left for an early return in each scope: five identifiers, five types and a block for each
pub record HasRoom (hir : HirFunction) (env : Environment) : Type 0 where
  pub identifiers : length env.identifiers + 5 * scope_count hir ≤ 4294967295
  pub types : length env.types + 5 * scope_count hir ≤ 4294967295
  pub blocks : env.next_block + scope_count hir ≤ 4294967295
  pub above_keys : All (λ entry. entry.0.0 < env.next_block) hir.body.blocks
