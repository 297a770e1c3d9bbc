-- The bytes that a call of a source took, if the source tells its bytes, and the faults that a device has counted.
use Rattle.std.specs.Prelude.{ℕ, ◌+◌, ◌≤◌, min, List, length, Option}
use Rattle.std.specs.Io.KnownBytes.{Consumes, IsAtEnd}
use Rattle.rc_lines.specs.Sink.{last_count}

-- a count after one more
abbrev pub counted : ℕ → ℕ
counted count = min (count + 1) last_count

-- the largest number of bytes that a document may have
abbrev pub most_bytes : ℕ
most_bytes = 16777216

-- bytes were taken from a source, and their number has the property
pub record HasTaken (Number : ℕ → Type 0) (left left' : Option (List ℕ)) : Type 0 where
  pub bytes : List ℕ
  pub taken : Consumes left left' bytes
  pub number : Number (length bytes)

-- these bytes were taken from a source, no more than a document may have, and none is left
pub record IsReadToEnd (left left' : Option (List ℕ)) (bytes : List ℕ) : Type 0 where
  pub taken : Consumes left left' bytes
  pub end : IsAtEnd left'
  pub size : length bytes ≤ most_bytes
