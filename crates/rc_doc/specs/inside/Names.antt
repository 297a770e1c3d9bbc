-- Names of members in byte order.
use Rattle.std.specs.Prelude.{ℕ, Bool, true, List, [], ◌∷◌, ◌&&◌}
use Rattle.std.specs.Cmp.Lexicographic.{slice_cmp}
use Rattle.std.specs.Ordering.{is_lt, nat_cmp}

-- the name is below the first of these, in byte order
abbrev pub is_below : List ℕ → List (List ℕ) → Bool
is_below name [] = true
is_below name (next ∷ names) = is_lt (slice_cmp nat_cmp name next)

-- each name is below the next one, in byte order
abbrev pub are_ascending : List (List ℕ) → Bool
are_ascending [] = true
are_ascending (name ∷ names) = is_below name names && are_ascending names
