-- What a scope depends on, as pairs of a declaration and a path; and which lists of pairs are the same.
use Rattle.std.specs.Prelude.{◌≡◌, All, Contains, List, [], length}
use Rattle.rc_names.specs.Numbers.{DeclarationId}
use Rattle.rc_merge.specs.declared.facts.DepPair.{DepPair}

-- the pair is a whole value
abbrev pub IsWhole : DepPair → Type 0
IsWhole pair = pair.path ≡ []

-- the whole value of a declaration
abbrev pub whole : DeclarationId → DepPair
whole declaration = record { declaration = declaration; path = [] }

-- as many pairs, and each of one list is in the other, whichever of the two lists it is in
pub record HaveSamePairs (pairs others : List DepPair) : Type 0 where
  pub as_long : length pairs ≡ length others
  pub among : All (Contains others) pairs
  pub back : All (Contains pairs) others
