-- Truth values in the bits of words, 64 in each.
use Rattle.std.specs.Prelude.{◌/◌, ◌%◌, ℕ, Bool, List, map, nat_eq, slice_index_or}
use Rattle.std.specs.List.{range_with_len}
use Rattle.std.specs.Int.{bit_at}

-- the truth value at a place
abbrev pub bit_in : List ℕ → ℕ → Bool
bit_in words place = nat_eq (bit_at (slice_index_or words (place / 64) 0) (place % 64)) 1

-- the first `n` truth values
abbrev pub bits_of : List ℕ → ℕ → List Bool
bits_of words n = map (bit_in words) (range_with_len 0 n)
