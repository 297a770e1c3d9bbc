-- How much of a text a sink took, if it tells its bytes, and how much is left.
use Rattle.std.specs.Prelude.{◌≡◌, ℕ, List, ◌++◌, Option}
use Rattle.std.specs.Io.KnownBytes.{Appends}

-- the text was appended to the bytes of a sink, but for these at its end
pub record HasSent (written written' : Option (List ℕ)) (text left : List ℕ) : Type 0 where
  pub sent : List ℕ
  pub appended : Appends written written' sent
  pub whole : sent ++ left ≡ text

-- some of the text was appended to the bytes of a sink
abbrev pub HasSentSome : Option (List ℕ) → Option (List ℕ) → List ℕ → Type 0
HasSentSome written written' text = (left : List ℕ) × HasSent written written' text left
