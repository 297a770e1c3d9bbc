-- Block numbers ascend, so the next number is a new key.
use Rattle.std.specs.Prelude.{ℕ, ◌<◌, List, All}
use Rattle.rc_hir.specs.Model.{BasicBlock}
use Rattle.rc_names.specs.Numbers.{BlockId}

-- each block has a smaller number
abbrev pub AreKeysBelow : ℕ → List (BlockId × BasicBlock) → Type 0
AreKeysBelow number blocks = All (λ entry. entry.0.0 < number) blocks
