-- A text that is written from its front, piece by piece.
use Rattle.std.proofs.Common.{ℕ, ◌+◌, ◌-◌, length, List, take, drop, Option}
use Rattle.std.proofs.KnownBytes.{Appends-trans}
use Rattle.std.proofs.lemmas.List.{take_rest}
use Rattle.std.proofs.Math.Seq.{take-add}
use Rattle.std.specs.Io.KnownBytes.{Appends}

-- the front of the remaining text is appended to the front that was written
pub Appends-more : (old mid new : Option (List ℕ)) (text : List ℕ) (at count : ℕ)
    → Appends old mid (take at text) → Appends mid new (take count (take (length text - at) (drop at text)))
    → Appends old new (take (at + count) text)
Appends-more old mid new text at count before more =
    rw take-add (Appends-trans old mid new _ _ before (rw take_rest at more))
