-- The levels of memoization, in their order.
use Rattle.std.specs.Prelude.{ℕ, nat_lt, if◌then◌else◌}
use Rattle.rc_memo.specs.declared.level.MemoizationLevel.{MemoizationLevel}
use Rattle.rc_memo.specs.declared.level.MemoizationLevel.TheVariants.{Memoized, Conditional, Unmemoized, Never}

-- the place of a level in the order from the strongest to the weakest
abbrev pub rank : MemoizationLevel → ℕ
rank Memoized = 0
rank Conditional = 1
rank Unmemoized = 2
rank Never = 3

-- the stronger of two levels
abbrev pub stronger : MemoizationLevel → MemoizationLevel → MemoizationLevel
stronger a b = if nat_lt (rank b) (rank a) then b else a
