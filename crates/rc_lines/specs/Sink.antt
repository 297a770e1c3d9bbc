-- The bytes that a call of a sink took, if the sink tells its bytes, and the faults that a device has counted.
use Rattle.std.specs.Prelude.{◌≡◌, ℕ, ◌-◌, ◌^◌, ◌<◌, ◌⊎◌, List, take, Option}
use Rattle.std.specs.Io.KnownBytes.{Appends}

-- the last value of a count, which doesn't rise any more
abbrev pub last_count : ℕ
last_count = 2 ^ 64 - 1

-- the count is greater than before, or has its last value
abbrev pub HasRisen : ℕ → ℕ → Type 0
HasRisen before now = (before < now) ⊎ (now ≡ last_count)

-- a prefix of the text was appended to the bytes of a sink
abbrev pub HasAppendedPrefix : Option (List ℕ) → Option (List ℕ) → List ℕ → Type 0
HasAppendedPrefix written written' text = (count : ℕ) × Appends written written' (take count text)
